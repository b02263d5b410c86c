-- The body is in its sector, whether or not it lasts.
use Rattle.uber_ring.specs.Spelling.{body_bytes}
use Rattle.uber_ring.specs.Ring.{body_sector}
use Rattle.uber_ring.specs.RingWrites.{slot_of}
use Rattle.uber_ring.proofs.SealLaws.{length-body_bytes}
use Rattle.txg_sync.proofs.Sealing.{written_touches}
use Rattle.txg_sync.proofs.fill.fill_slot.Goals as goal

pub returns-clause-touched : goal.returns-clause-touched
returns-clause-touched g c =
    written_touches c.barrier.result (body_sector (slot_of c.args.seal.now.group)) (body_bytes c.args.seal.now) _ _ _
    (length-body_bytes c.args.seal.now c.seal_fits.ensures) c.in_ok-write_body.ensures.written c.barrier.ensures.contents
