-- Each moment's outcome is one at the entry, with the gate torn where it was open, and else the same.
use Rattle.std.proofs.Common.{◌≡◌, refl, sym, subst}
use Rattle.std.specs.Prelude.{MatchBool}
use Rattle.disk_model.proofs.Moments.{by_write, by_write_and_barrier, by_barrier}
use Rattle.uber_ring.specs.RingWrites.{GateTorn}
use Rattle.uber_ring.proofs.RingLaws.{torn_gate, still_gate}
use Rattle.uber_ring.proofs.ring.close_slot.Goals as goal

pub returns-then-not-was_open-clause-any_moment : goal.returns-then-not-was_open-clause-any_moment
returns-then-not-was_open-clause-any_moment g c =
    by_barrier (λ d i. MatchBool c.args.was_open (GateTorn c.args.slot d i) (i ≡ d)) c.crash_laws.ensures.here
    (λ i left. subst (λ was_open. MatchBool was_open (GateTorn c.args.slot i i) (i ≡ i)) (sym c.if-not-was_open.true) refl)
    c.barrier.ensures.crash c.barrier.ensures.time

pub returns-in_err-write-clause-any_moment : goal.returns-in_err-write-clause-any_moment
returns-in_err-write-clause-any_moment g c =
    by_write (λ d i. MatchBool c.args.was_open (GateTorn c.args.slot d i) (i ≡ d)) c.crash_laws.ensures.here
    (λ i left. subst (λ was_open. MatchBool was_open (GateTorn c.args.slot i i) (i ≡ i)) (sym c.if-not-was_open.false)
    (still_gate _ c.args.slot i (c.crash_laws.ensures.here.leaves_images i left)))
    (λ i left. let from = c.write.ensures.crash i left in (
      from.0,
      from.1,
      subst (λ was_open. MatchBool was_open (GateTorn c.args.slot from.0 i) (i ≡ from.0)) (sym c.if-not-was_open.false)
          (torn_gate c.args.slot from.0 i from.2),
    )) c.write.ensures.time

pub returns-clause-any_moment : goal.returns-clause-any_moment
returns-clause-any_moment g c =
    by_write_and_barrier (λ d i. MatchBool c.args.was_open (GateTorn c.args.slot d i) (i ≡ d)) c.crash_laws.ensures.here
    (λ i left. subst (λ was_open. MatchBool was_open (GateTorn c.args.slot i i) (i ≡ i)) (sym c.if-not-was_open.false)
    (still_gate _ c.args.slot i (c.crash_laws.ensures.here.leaves_images i left)))
    (λ i left. let from = c.write.ensures.crash i left in (
      from.0,
      from.1,
      subst (λ was_open. MatchBool was_open (GateTorn c.args.slot from.0 i) (i ≡ from.0)) (sym c.if-not-was_open.false)
          (torn_gate c.args.slot from.0 i from.2),
    )) c.write.ensures.time c.barrier-2.ensures.crash c.barrier-2.ensures.time
