-- The blocks first, and then the chains behind them.
use Rattle.std.proofs.Common.{map}
use Rattle.pool_model.specs.Mirrors.{stored_of}
use Rattle.txg_sync.proofs.Stored.{on_ok, blocks_touched, all_touched, all_stored, while_blocks, while_chains}
use Rattle.txg_sync.proofs.store.store_group.Goals as goal

pub returns-in_err-write_blocks-clause-touched : goal.returns-in_err-write_blocks-clause-touched
returns-in_err-write_blocks-clause-touched g c = blocks_touched
    (map stored_of c.args.contents.now) c.args.parts.now _ _ c.write_blocks.ensures.touched

pub returns-in_err-write_blocks-clause-any_moment : goal.returns-in_err-write_blocks-clause-any_moment
returns-in_err-write_blocks-clause-any_moment g c =
    while_blocks (map stored_of c.args.contents.now) c.args.parts.now c.write_blocks.ensures.any_moment

pub returns-clause-stored : goal.returns-clause-stored
returns-clause-stored g c =
    on_ok c.write_parts.result _ _
    (λ held. all_stored (map stored_of c.args.contents.now) c.args.parts.now _ _ _ c.in_ok-write_blocks.ensures.written
    c.write_blocks.ensures.touched held c.write_parts.ensures.touched) c.write_parts.ensures.held

pub returns-clause-touched : goal.returns-clause-touched
returns-clause-touched g c = all_touched
    (map stored_of c.args.contents.now) c.args.parts.now _ _ _ c.write_blocks.ensures.touched c.write_parts.ensures.touched

pub returns-clause-any_moment : goal.returns-clause-any_moment
returns-clause-any_moment g c =
    while_chains (map stored_of c.args.contents.now) c.args.parts.now c.write_blocks.ensures.any_moment c.crash_laws.ensures.here
    c.write_parts.ensures.any_moment
