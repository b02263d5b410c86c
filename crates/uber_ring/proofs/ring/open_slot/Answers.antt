-- Each moment's outcome is one at the entry, with the gate torn.
use Rattle.disk_model.proofs.Moments.{by_write, by_write_and_barrier}
use Rattle.uber_ring.specs.RingWrites.{GateTorn}
use Rattle.uber_ring.proofs.RingLaws.{torn_gate, still_gate}
use Rattle.uber_ring.proofs.ring.open_slot.Goals as goal

pub returns-in_err-write-clause-any_moment : goal.returns-in_err-write-clause-any_moment
returns-in_err-write-clause-any_moment g c =
    by_write (GateTorn c.args.slot) c.crash_laws.ensures.here
    (λ i left. still_gate _ c.args.slot i (c.crash_laws.ensures.here.leaves_images i left))
    (λ i left. let from = c.write.ensures.crash i left in (from.0, from.1, torn_gate c.args.slot from.0 i from.2)) c.write.ensures.time

pub returns-clause-any_moment : goal.returns-clause-any_moment
returns-clause-any_moment g c =
    by_write_and_barrier (GateTorn c.args.slot) c.crash_laws.ensures.here
    (λ i left. still_gate _ c.args.slot i (c.crash_laws.ensures.here.leaves_images i left))
    (λ i left. let from = c.write.ensures.crash i left in (from.0, from.1, torn_gate c.args.slot from.0 i from.2)) c.write.ensures.time
    c.barrier.ensures.crash c.barrier.ensures.time
