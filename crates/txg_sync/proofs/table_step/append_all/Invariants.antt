use Rattle.std.proofs.Common.{◌≡◌, take, fold}
use Rattle.txg_sync.specs.TableSteps.{counted_as, counted_change}
use Rattle.txg_sync.proofs.table_step.append_all.Given as goal

abbrev pub invariant-changes : goal.invariant-changes
invariant-changes g l =
    counted_as l.logs l.totals ≡ fold (counted_change l.classes) (counted_as l.fn.logs l.fn.totals) (take l.change-index l.changes)
