use Rattle.std.proofs.Common.{◌≡◌, length, drop, fold}
use Rattle.disk_model.specs.Memory.{crash_sector}
use Rattle.disk_model.proofs.crash.crash_all.Given as goal

abbrev pub invariant-writes : goal.invariant-writes
invariant-writes l =
    (fold (crash_sector l.choice l.now) l.sectors (drop l.write-index l.writes) ≡ fold (crash_sector l.choice l.now) l.fn.sectors l.writes)
    × (length l.sectors ≡ length l.fn.sectors)
