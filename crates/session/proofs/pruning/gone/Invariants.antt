use Rattle.std.proofs.Common.{◌≡◌, take}
use Rattle.session.specs.StageClosing.{gone_of}
use Rattle.session.proofs.pruning.gone.Given as goal

abbrev pub invariant-taken : goal.invariant-taken
invariant-taken l = l.changes.items ≡ gone_of (take l.entry-index l.taken)
