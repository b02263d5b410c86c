use Rattle.std.proofs.Common.{◌≡◌, ◌≤◌}
use Rattle.std.specs.Prelude.{IfSome}
use Rattle.uber_ring.specs.Ring.{seal_at, highest}
use Rattle.uber_ring.proofs.ring.find.Given as goal

abbrev pub invariant-slots : goal.invariant-slots
invariant-slots g l =
    IfSome (g.D.Disk.state l.disk).seen (λ image. l.best ≡ highest (seal_at l.version image) l.slot)
    × (g.D.Disk.meter_faults l.fn.meter ≤ g.D.Disk.meter_faults l.meter)
