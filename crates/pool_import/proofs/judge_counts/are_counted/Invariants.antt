use Rattle.std.proofs.Common.{◌≡◌, drop}
use Rattle.std.specs.List.{list_all}
use Rattle.pool_import.specs.Marks.{is_counted}
use Rattle.pool_import.proofs.judge_counts.are_counted.Given as goal

abbrev pub invariant-loop-at : goal.invariant-loop-at
invariant-loop-at l = list_all (is_counted l.spots) (drop l.at l.homes) ≡ list_all (is_counted l.spots) l.homes
