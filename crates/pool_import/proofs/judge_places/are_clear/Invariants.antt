use Rattle.std.proofs.Common.{◌≡◌, drop}
use Rattle.std.specs.List.{list_all}
use Rattle.pool_import.specs.Marks.{is_clear}
use Rattle.pool_import.proofs.judge_places.are_clear.Given as goal

abbrev pub invariant-spots : goal.invariant-spots
invariant-spots l = list_all (is_clear l.used) (drop l.spot-index l.spots) ≡ list_all (is_clear l.used) l.spots
