use Rattle.grant_book.proofs.BookLaws.{IsKeptTo}
use Rattle.grant_book.proofs.book.drop_pending.Given as goal

abbrev pub invariant-sectors : goal.invariant-sectors
invariant-sectors l = IsKeptTo l.initial.used.items l.pending l.used.items l.sector
