use Rattle.std.proofs.Common.{◌≡◌, length, drop, fold}
use Rattle.disk_model.specs.Memory.{write_sector}
use Rattle.disk_model.proofs.crash.write_all.Given as goal

abbrev pub invariant-writes : goal.invariant-writes
invariant-writes l =
    (fold write_sector l.sectors (drop l.write-index l.writes) ≡ fold write_sector l.fn.sectors l.writes)
    × (length l.sectors ≡ length l.fn.sectors)
