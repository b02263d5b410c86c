-- What the ring shows once a sector of a slot has been written.
use Rattle.std.proofs.Common.{◌≡◌, ℕ, ◌<◌, ◌≤◌, true, false, Some, length, ◌∙◌, ap, arith, mod-lt}
use Rattle.std.specs.Prelude.{List, slice_set}
use Rattle.std.proofs.lemmas.List.{length-set}
use Rattle.disk_model.specs.Images.{Image}
use Rattle.disk_model.specs.DiskLaws.{IsImage}
use Rattle.disk_model.proofs.Sectors.{sector_at-set, sector_at-set_other}
use Rattle.uber_ring.specs.Seals.{body_seal, is_open}
use Rattle.uber_ring.specs.Spelling.{FitsSeal, body_bytes, open_gate, closed_gate}
use Rattle.uber_ring.specs.Ring.{slot_count, fewest_sectors, gate_sector, body_sector, gate_is_open, behind}
use Rattle.uber_ring.specs.RingWrites.{ring_sectors, slot_of}
use Rattle.uber_ring.specs.declared.seal.Seal.{Seal}
use Rattle.uber_ring.proofs.RingLaws.{behind-same}
use Rattle.uber_ring.proofs.Told.{behind-large}
use Rattle.uber_ring.proofs.Gates.{opens, closes}
use Rattle.uber_ring.proofs.SealLaws.{body_seal-body_bytes}

in_slots : (group : ℕ) → slot_of group < slot_count
in_slots group = mod-lt group (omega arith)

module _ (sectors : ℕ) (image : Image) (is : IsImage sectors image) where
  -- a body that was written stands behind its slot's gate
  pub behind_written : (seal : Seal) → FitsSeal seal → fewest_sectors ≤ sectors
      → behind seal.version (slice_set image (body_sector (slot_of seal.group)) (body_bytes seal)) (slot_of seal.group) ≡ Some seal
  behind_written seal fits large =
      let slot : ℕ = slot_of seal.group in
      let bytes = body_bytes seal in
      let after : Image = slice_set image (body_sector slot) bytes in
      let inside : body_sector slot < length image = omega (arith, large, is.count, in_slots seal.group) in
      behind-large seal.version slot after (omega (arith, large, is.count, length-set image (body_sector slot) bytes))
      ∙ ap (body_seal seal.version slot) (sector_at-set image (body_sector slot) bytes inside)
      ∙ body_seal-body_bytes seal fits

  module _ (slot : ℕ) (in_ring : slot < slot_count) (enough : ring_sectors ≤ sectors) where
    -- a gate that was opened reads open
    pub gate_opened : gate_is_open (slice_set image (gate_sector slot) open_gate) slot ≡ true
    gate_opened = ap is_open (sector_at-set image (gate_sector slot) open_gate (omega (arith, in_ring, enough, is.count))) ∙ opens

    -- and one that was closed reads closed
    pub gate_closed : gate_is_open (slice_set image (gate_sector slot) closed_gate) slot ≡ false
    gate_closed = ap is_open (sector_at-set image (gate_sector slot) closed_gate (omega (arith, in_ring, enough, is.count))) ∙ closes

    -- what stands behind a gate doesn't change with it
    pub behind_kept : (version : ℕ) (gate : List ℕ)
        → behind version (slice_set image (gate_sector slot) gate) slot ≡ behind version image slot
    behind_kept version gate =
        behind-same version slot image (slice_set image (gate_sector slot) gate) (length-set image (gate_sector slot) gate)
        (sector_at-set_other image (gate_sector slot) (body_sector slot) gate (λ same. omega (arith, same)))
