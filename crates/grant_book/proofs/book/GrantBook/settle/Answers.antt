use Rattle.std.proofs.Common.{◌∙◌, false, replicate, sym, ap}
use Rattle.grant_book.proofs.BookLaws.{book_of}
use Rattle.grant_book.proofs.book.GrantBook.settle.Goals as goal

pub invariant_of-self : goal.invariant_of-self
invariant_of-self c =
    book_of _ _ _ (c.settle_notes-self-inside.ensures.none ∙ ap (λ n. replicate n false) (sym c.settle_notes-self-inside.ensures.alike))
    c.settle_notes-self-inside.ensures.free
