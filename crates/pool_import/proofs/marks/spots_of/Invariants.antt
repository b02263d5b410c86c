use Rattle.std.proofs.Common.{◌≡◌, map, take}
use Rattle.pool_import.specs.Marks.{spot_among}
use Rattle.pool_import.proofs.marks.spots_of.Given as goal

abbrev pub invariant-slots : goal.invariant-slots
invariant-slots l = l.spots.items ≡ map (spot_among l.found) (take l.slot-index l.slots)
