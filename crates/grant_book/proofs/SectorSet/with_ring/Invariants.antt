use Rattle.std.proofs.Common.{◌≡◌, ℕ, ◌<◌, false, length, get_or}
use Rattle.std.specs.Prelude.{nat_lt}
use Rattle.grant_book.proofs.SectorSet.with_ring.Given as goal

-- those below the one that comes are used, and no other
abbrev pub invariant-ring : goal.invariant-ring
invariant-ring l = (length l.used ≡ l.sectors) × ((k : ℕ) → k < l.sectors → get_or l.used k false ≡ nat_lt k l.sector)
