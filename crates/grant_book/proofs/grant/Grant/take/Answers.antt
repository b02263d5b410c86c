use Rattle.std.proofs.Common.{rules, ◌≡◌, ◌+◌, ◌∙◌, Some, drop, sym, arith}
use Rattle.std.specs.Prelude.{slice_get}
use Rattle.grant_book.proofs.GrantLaws.{next_first, next_within}
use Rattle.grant_book.proofs.grant.Grant.take.Goals as goal

pub overflow_add-self : goal.overflow_add-self
overflow_add-self c =
    let given : slice_get (drop c.self.inside.taken c.self.inside.places.items) 0 ≡ Some c.in_ok-next.next = search rules in
    omega
    (arith, c.is_small.ensures, next_within c.self.inside.places.items c.self.inside.taken (c.self.inside.taken + 1) c.in_ok-next.next (omega arith) given)

pub returns-clause-next : goal.returns-clause-next
returns-clause-next c =
    let given : slice_get (drop c.self.inside.taken c.self.inside.places.items) 0 ≡ Some c.in_ok-next.next = search rules in
    sym c.self.view_is
    ∙ next_first c.self.inside.places.items c.self.inside.taken (c.self.inside.taken + 1) c.in_ok-next.next (omega arith) given
