use Rattle.std.proofs.Common.{◌≤◌, length, arith}
use Rattle.grant_book.proofs.FreeLaws.{found_at_end}
use Rattle.grant_book.proofs.search.first_free.Goals as goal

pub returns : goal.returns
returns c =
    let past : length c.args.used.now ≤ c.search.sector = omega (arith, c.search-test.false) in
    found_at_end c.args.used.now c.search.places.items c.search.sector c.args.wanted past c.search.invariant.found c.search.invariant.few
    c.search.invariant.enough
