use Rattle.std.proofs.Common.{◌≤◌, length, arith}
use Rattle.grant_book.proofs.BookLaws.{kept_all}
use Rattle.grant_book.proofs.book.drop_pending.Goals as goal

pub returns-clause-kept : goal.returns-clause-kept
returns-clause-kept c =
    let past : length c.args.used.now.items ≤ c.sectors.sector = omega (arith, c.sectors-test.false, c.sectors.invariant.alike) in
    kept_all _ _ _ _ c.sectors.invariant past
