use Rattle.std.proofs.Common.{◌≡◌, drop}
use Rattle.grant_book.specs.Sectors.{marked}
use Rattle.grant_book.proofs.SectorSet.mark_all.Given as goal

abbrev pub invariant-sectors : goal.invariant-sectors
invariant-sectors l = marked l.self (drop l.sector-index l.sectors) ≡ marked l.initial.self l.sectors
