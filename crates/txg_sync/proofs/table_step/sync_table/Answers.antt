-- The three calls are the three steps.
use Rattle.std.proofs.Common.{◌∙◌, sym, ap, subst}
use Rattle.log_flush.specs.Flushing.{IsSecondStep}
use Rattle.pool_model.specs.Replaying.{LoggedTable, sync_logged}
use Rattle.pool_model.specs.Table.{IsTable, counted_homes, flush_limit, sync_table}
use Rattle.pool_stats.specs.Totals.{totals_in}
use Rattle.table_state.specs.Kept.{kept_in}
use Rattle.txg_sync.specs.TableSteps.{CountedLogs, counted_as}
use Rattle.txg_sync.proofs.TableSteps.{stepped}
use Rattle.txg_sync.proofs.Totals.{pair_logged, totals_synced}
use Rattle.txg_sync.proofs.table_step.sync_table.Goals as goal

pub returns-clause-kept : goal.returns-clause-kept
returns-clause-kept g c =
    let before : LoggedTable = kept_in c.table.inside.classes c.table.inside.logs c.table.inside.age in
    c.swap_due-table-inside.ensures c.flush_some.new.classes
    ∙ stepped c.args.changes.now before.table before.logs c.append_all.new.logs c.flush_some.new.logs c.flush_some.new.classes
    (ap (λ (counted : CountedLogs). counted.pair) c.in_ok-append_all.ensures
    ∙ pair_logged c.table.inside.classes c.args.changes.now (counted_as c.table.inside.logs c.args.totals.now))
    (subst (λ n. IsSecondStep n c.table.inside.classes c.append_all.new.logs c.flush_some.new.classes c.flush_some.new.logs)
    (c.flush_limit-limit.ensures.count ∙ ap (λ (k : LoggedTable). flush_limit k.table) (sym c.table.view_is)) c.in_ok-flush_some.ensures)
    ∙ ap (sync_logged c.args.changes.now) c.table.view_is

pub returns-clause-totals : goal.returns-clause-totals
returns-clause-totals g c is kept =
    ap (λ (counted : CountedLogs). counted.totals) c.in_ok-append_all.ensures
    ∙ totals_synced c.args.changes.now c.table.inside.classes c.table.inside.logs c.table.inside.age c.args.totals.now
    (subst (λ (k : LoggedTable). IsTable k.table) (sym c.table.view_is) is)
    (kept ∙ ap (λ (k : LoggedTable). totals_in (counted_homes k.table)) (sym c.table.view_is))
    ∙ ap (λ (k : LoggedTable). totals_in (counted_homes (sync_table c.args.changes.now k.table))) c.table.view_is
    ∙ ap (λ (k : LoggedTable). totals_in (counted_homes k.table)) (sym (returns-clause-kept g c))
