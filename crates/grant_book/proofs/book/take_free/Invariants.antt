use Rattle.std.proofs.Common.{◌≡◌, ◌+◌, ◌≤◌, ◌++◌, length, drop}
use Rattle.grant_book.specs.Sectors.{free_from, free_sectors, marked}
use Rattle.grant_book.proofs.book.take_free.Given as goal

-- what was found so far, and then what is found further on, are the sectors that were free
abbrev pub invariant-search : goal.invariant-search
invariant-search l = record {
  found : l.places.items ++ free_from l.sector (drop l.sector l.used.items) ≡ free_sectors l.initial.used.items;
  low : free_sectors l.used.items ≡ free_from l.sector (drop l.sector l.used.items);
  marked_so : l.used.items ≡ marked l.initial.used.items l.places.items;
  alike : length l.used.items ≡ length l.initial.used.items;
  few : length l.places.items ≤ l.wanted;
  room : l.wanted ≤ length l.places.items + l.places.spare;
}
