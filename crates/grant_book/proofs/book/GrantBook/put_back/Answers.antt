use Rattle.std.proofs.Common.{rules, ◌≤◌, arith}
use Rattle.std.proofs.lemmas.Bool.Decides.{nat_tests}
use Rattle.grant_book.proofs.BookLaws.{given_book}
use Rattle.grant_book.proofs.book.GrantBook.put_back.Goals as goal

pub invariant_of-self : goal.invariant_of-self
invariant_of-self c =
    let below : c.min-self-inside.result ≤ c.self.inside.low = grind (arith, nat_tests, c.min-self-inside.ensures) in
    let before : c.min-self-inside.result ≤ c.args.place = grind (arith, nat_tests, c.min-self-inside.ensures) in
    given_book c.self.inside.used.items c.self.inside.pending.items c.self.inside.free c.self.inside.low c.self.invariant c.args.place
    c.min-self-inside.result below before (search rules) (search rules)
