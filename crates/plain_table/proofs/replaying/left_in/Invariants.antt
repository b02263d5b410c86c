use Rattle.std.proofs.Common.{◌≡◌, take}
use Rattle.pool_model.specs.Logs.{left_in}
use Rattle.plain_table.proofs.replaying.left_in.Given as goal

abbrev pub invariant-changes : goal.invariant-changes
invariant-changes l = l.left ≡ left_in l.checkpoint l.active (take l.change-index l.log)
