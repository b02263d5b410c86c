use Rattle.std.proofs.Common.{◌≡◌, drop, replicate}
use Rattle.pool_import.specs.Marks.{are_owned}
use Rattle.pool_import.proofs.judge_places.are_owned.Given as goal

abbrev pub invariant-loop-at : goal.invariant-loop-at
invariant-loop-at l = are_owned l.spots l.at l.owners.items (drop l.at l.spots) ≡ are_owned l.spots 0 (replicate l.sectors 0) l.spots
