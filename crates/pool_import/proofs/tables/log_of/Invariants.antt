use Rattle.std.proofs.Common.{◌≡◌, ◌++◌, drop}
use Rattle.pool_import.proofs.tables.log_of.Given as goal

abbrev pub invariant-changes : goal.invariant-changes
invariant-changes g l = (l.log.changes ++ drop l.change-index l.changes ≡ l.changes) × (l.log.checkpoint ≡ l.fn.checkpoint)
