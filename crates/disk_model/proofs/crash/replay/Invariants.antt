use Rattle.std.proofs.Common.{◌≡◌, ◌<◌, length, drop, fold, All}
use Rattle.disk_model.specs.Memory.{after_call, cells_after, padded}
use Rattle.disk_model.proofs.crash.replay.Given as goal

abbrev pub invariant-calls : goal.invariant-calls
invariant-calls l =
    (fold after_call (record { base = l.base.items; pending = l.pending.items }) (drop l.call-index l.calls) ≡ cells_after
    (padded l.sectors l.start) l.calls)
    × (length l.base.items ≡ l.sectors) × All (λ write. write.at < l.sectors) l.pending.items
