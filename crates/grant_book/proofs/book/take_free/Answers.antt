use Rattle.std.proofs.Common.{rules, ◌≡◌, ◌≤◌, length, arith}
use Rattle.grant_book.proofs.BookLaws.{taken_enough, taken_left, taken_all}
use Rattle.grant_book.proofs.book.take_free.Goals as goal

pub returns-then-len-wanted-clause-left : goal.returns-then-len-wanted-clause-left
returns-then-len-wanted-clause-left c =
    let count : length c.search.places.items ≡ c.args.wanted = search rules in
    taken_left
    c.args.used.now.items c.search.used.items c.search.places.items c.search.sector c.args.wanted
    c.search.invariant.found c.search.invariant.low count

pub returns-clause-first : goal.returns-clause-first
returns-clause-first c =
    let past : length c.search.used.items ≤ c.search.sector = omega (arith, c.search-test.false, c.search.invariant.alike) in
    taken_enough
    c.args.used.now.items c.search.used.items c.search.places.items c.search.sector c.args.wanted
    c.search.invariant.found c.search.invariant.low
    (taken_all
    c.args.used.now.items c.search.used.items c.search.places.items c.search.sector c.args.wanted
    c.search.invariant.found c.search.invariant.low past c.search.invariant.few c.requires.enough)

pub returns-clause-left : goal.returns-clause-left
returns-clause-left c =
    let past : length c.search.used.items ≤ c.search.sector = omega (arith, c.search-test.false, c.search.invariant.alike) in
    taken_left
    c.args.used.now.items c.search.used.items c.search.places.items c.search.sector c.args.wanted
    c.search.invariant.found c.search.invariant.low
    (taken_all
    c.args.used.now.items c.search.used.items c.search.places.items c.search.sector c.args.wanted
    c.search.invariant.found c.search.invariant.low past c.search.invariant.few c.requires.enough)
