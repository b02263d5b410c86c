-- Each moment's outcome is one at the entry, with the body torn.
use Rattle.disk_model.proofs.Moments.{by_write}
use Rattle.uber_ring.specs.RingWrites.{BodyTorn, slot_of}
use Rattle.uber_ring.proofs.RingLaws.{torn_body, still_body}
use Rattle.uber_ring.proofs.ring.write_body.Goals as goal

pub returns-clause-any_moment : goal.returns-clause-any_moment
returns-clause-any_moment g c =
    by_write (BodyTorn (slot_of c.args.seal.now.group)) c.crash_laws.ensures.here
    (λ i left. still_body _ (slot_of c.args.seal.now.group) i (c.crash_laws.ensures.here.leaves_images i left))
    (λ i left. let from = c.write.ensures.crash i left in (from.0, from.1, torn_body (slot_of c.args.seal.now.group) from.0 i from.2))
    c.write.ensures.time
