-- Nothing is changed before a pool is begun.
use Rattle.std.proofs.Common.{rules}
use Rattle.txg_sync.proofs.Taking.{stays_some}
use Rattle.session.proofs.Made.{not_begun, not_begun_at, not_called, made_behind, still_pending}
use Rattle.session.proofs.making.make_pool.Goals as goal

pub returns-then-sectors-lt-FEWEST_SECTORS-clause-made : goal.returns-then-sectors-lt-FEWEST_SECTORS-clause-made
returns-then-sectors-lt-FEWEST_SECTORS-clause-made g c image told = not_called c.args.tag image _ _ told c.crash_laws.ensures.here

pub returns-then-sectors-gt-MOST_SECTORS-clause-made : goal.returns-then-sectors-gt-MOST_SECTORS-clause-made
returns-then-sectors-gt-MOST_SECTORS-clause-made g c image told = not_called c.args.tag image _ _ told c.crash_laws.ensures.here

pub returns-in_err-found-clause-made : goal.returns-in_err-found-clause-made
returns-in_err-found-clause-made g c image told =
    not_begun_at c.args.tag image _ c.from_residual.result (search rules) (stays_some image _ _ told c.newest_group.ensures.stays)
    c.newest_group.ensures.any_moment c.newest_group.ensures.no_more

pub returns-in-Some-clause-made : goal.returns-in-Some-clause-made
returns-in-Some-clause-made g c image told =
    not_begun c.args.tag image _ _ (stays_some image _ _ told c.newest_group.ensures.stays) c.newest_group.ensures.any_moment
    c.newest_group.ensures.no_more

pub returns-clause-made : goal.returns-clause-made
returns-clause-made g c image told =
    made_behind c.args.tag image _ _ _ c.seal_empty_pool.result c.newest_group.ensures.any_moment c.newest_group.ensures.no_more
    (still_pending image _ _ told c.in_ok-found.ensures.durable)
    (c.seal_empty_pool.ensures.made image (stays_some image _ _ told c.newest_group.ensures.stays))
