use Rattle.std.proofs.Common.{◌≡◌, ◌+◌, ◌≤◌, ◌++◌, not, length, drop}
use Rattle.std.specs.List.{count_by}
use Rattle.grant_book.specs.Sectors.{free_from, free_sectors}
use Rattle.grant_book.proofs.search.first_free.Given as goal

-- what was found so far, and then what is found further on, are the free sectors
abbrev pub invariant-search : goal.invariant-search
invariant-search l = record {
  found : l.places.items ++ free_from l.sector (drop l.sector l.used) ≡ free_sectors l.used;
  few : length l.places.items ≤ l.wanted;
  room : l.wanted ≤ length l.places.items + l.places.spare;
  enough : l.wanted ≤ count_by not l.used;
}
