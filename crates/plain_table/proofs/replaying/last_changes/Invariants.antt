use Rattle.std.proofs.Common.{◌≡◌, take}
use Rattle.pool_model.specs.Logs.{last_changes}
use Rattle.plain_table.proofs.replaying.last_changes.Given as goal

abbrev pub invariant-changes : goal.invariant-changes
invariant-changes l = l.last ≡ last_changes (take l.change-index l.log)
