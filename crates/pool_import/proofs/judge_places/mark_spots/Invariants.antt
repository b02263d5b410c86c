use Rattle.std.proofs.Common.{◌≡◌, drop}
use Rattle.grant_book.specs.Sectors.{marked}
use Rattle.pool_import.specs.Marks.{places_of}
use Rattle.pool_import.proofs.judge_places.mark_spots.Given as goal

abbrev pub invariant-spots : goal.invariant-spots
invariant-spots l = marked l.used (places_of (drop l.spot-index l.spots)) ≡ marked l.initial.used (places_of l.spots)
