use Rattle.std.proofs.Common.{◌≡◌, length, drop}
use Rattle.grant_book.specs.Book.{unmarked}
use Rattle.grant_book.proofs.book.GrantBook.put_all_back.Given as goal

abbrev pub invariant-places : goal.invariant-places
invariant-places l = record {
  used_so : unmarked l.self.used (drop l.place-index l.places) ≡ unmarked l.initial.self.used l.places;
  pending_so : l.self.pending ≡ l.initial.self.pending;
  alike : length l.self.used ≡ length l.initial.self.used;
}
