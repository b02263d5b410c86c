use Rattle.std.proofs.Common.{◌≡◌, ◌∙◌, false, ap, arith}
use Rattle.std.specs.Prelude.{nat_lt}
use Rattle.std.proofs.lemmas.List.FromFn.{fill_by_all}
use Rattle.grant_book.proofs.SectorSet.with_ring.Goals as goal

pub returns : goal.returns
returns c =
    let last : c.ring.sector ≡ 32 = omega arith in
    fill_by_all (λ k. nat_lt k 32) c.ring.used c.args.sectors false c.ring.invariant.0
    (λ k within. c.ring.invariant.1 k within ∙ ap (nat_lt k) last)
