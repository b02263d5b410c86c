use Rattle.std.proofs.Common.{◌≡◌, ◌+◌, ◌-◌, not, List, Bool, ap, arith}
use Rattle.std.specs.List.{count_by, All}
use Rattle.std.proofs.lemmas.List.Elements.{All-from_recursion}
use Rattle.grant_book.specs.Sectors.{marked}
use Rattle.grant_book.specs.Book.{Book, IsTaken}
use Rattle.grant_book.proofs.BookLaws.{granted_book, granted_taken}
use Rattle.grant_book.proofs.book.GrantBook.grant.Goals as goal

pub invariant_of-self : goal.invariant_of-self
invariant_of-self c =
    let free_so : count_by not c.self.inside.used.items ≡ count_by not c.args.self.now.used =
    ap (λ (book : Book). count_by not book.used) c.self.view_is in
    let fewer : c.self.inside.free - c.args.wanted + c.args.wanted ≡ c.self.inside.free =
    omega (arith, c.requires, free_so, c.self.invariant.free_is) in
    granted_book c.self.inside.used.items c.self.inside.pending.items c.self.inside.free c.self.inside.low c.self.invariant c.args.wanted
    c.take_free-self-inside.new.places.items c.take_free-self-inside.new.used.items (c.self.inside.free - c.args.wanted)
    c.take_free-self-inside.result c.take_free-self-inside.ensures.marked c.take_free-self-inside.ensures.left fewer
    c.take_free-self-inside.ensures.low

pub returns-clause-taken : goal.returns-clause-taken
returns-clause-taken c =
    let now : List Bool = c.take_free-self-inside.new.used.items in
    let each : All (IsTaken (marked c.self.inside.used.items c.take_free-self-inside.new.places.items) c.self.inside.pending.items)
    c.take_free-self-inside.new.places.items =
    All-from_recursion _ _
    (granted_taken c.self.inside.used.items c.self.inside.pending.items c.self.inside.free c.self.inside.low c.self.invariant c.args.wanted
    c.take_free-self-inside.new.places.items c.take_free-self-inside.ensures.first) in
    rw (c.of_places.ensures, c.take_free-self-inside.ensures.marked) each
