use Rattle.std.proofs.Common.{◌≡◌, [], replicate}
use Rattle.plain_run.proofs.group.no_places.Given as goal

abbrev pub invariant-loop-lane : goal.invariant-loop-lane
invariant-loop-lane l = l.fresh.items ≡ replicate l._lane []
