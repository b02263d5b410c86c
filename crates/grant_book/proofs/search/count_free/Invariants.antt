use Rattle.std.proofs.Common.{◌≡◌, ◌≤◌, not, take}
use Rattle.std.specs.List.{count_by}
use Rattle.grant_book.proofs.search.count_free.Given as goal

abbrev pub invariant-sectors : goal.invariant-sectors
invariant-sectors l = (l.count ≡ count_by not (take l.is_used-index l.used)) × (l.count ≤ l.is_used-index)
