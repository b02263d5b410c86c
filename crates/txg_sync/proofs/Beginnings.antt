-- What the stages of the first seal leave.
use Rattle.std.proofs.Common.{◌≡◌, ℕ, ◌<◌, ◌≤◌, Some, None, ◌∙◌, ap, sym, subst, inl, inr, ⊎_elim, arith}
use Rattle.std.specs.Prelude.{slice_set}
use Rattle.disk_model.specs.Images.{Image}
use Rattle.disk_model.specs.DiskLaws.{IsImage, Torn}
use Rattle.disk_model.proofs.Sectors.{IsImage-torn, Torn-set}
use Rattle.uber_ring.specs.Spelling.{FitsSeal, body_bytes, open_gate}
use Rattle.uber_ring.specs.Ring.{slot_count, gate_sector, body_sector, behind, seal_at, newest}
use Rattle.uber_ring.specs.RingWrites.{GateTorn, BodyTorn}
use Rattle.uber_ring.proofs.Gates.{length-open_gate}
use Rattle.uber_ring.proofs.RingLaws.{torn_gate, torn_body, seal_at-open}
use Rattle.uber_ring.proofs.Newest.{all_none, newest_none, newest_begins}
use Rattle.uber_ring.proofs.SealLaws.{length-body_bytes}
use Rattle.uber_ring.proofs.Written.{behind_written, behind_kept, gate_opened}
use Rattle.table_state.specs.SealForms.{fewest_sectors, most_sectors}
use Rattle.table_state.specs.Spelling.{new_seal}
use Rattle.table_state.specs.Flat.{image_version}
use Rattle.pool_model.specs.Run.{first_standing}
use Rattle.table_state.specs.Holding.{Holds}
use Rattle.table_state.specs.Pools.{new_held}
use Rattle.table_state.proofs.Created.{new_stands_over}
use Rattle.table_state.proofs.Held.{holds_over}
use Rattle.txg_sync.specs.Stages.{TakingLeaves, IsTaken, Unbegun, Beginning, Begun}
use Rattle.txg_sync.specs.FirstSeal.{SameOutside}

-- where no seal counts, no slot shows one
none_shown : (image : Image) (slot : ℕ) → slot < slot_count → newest image_version image ≡ None → seal_at image_version image slot ≡ None
unfolding newest
none_shown image slot within none = all_none (seal_at image_version image) slot_count none slot within

module _ (tag sectors : ℕ) (image : Image) (is : IsImage sectors image) (none : newest image_version image ≡ None) where
  still_none : (c : Image) → TakingLeaves 1 image c → newest image_version c ≡ None
  still_none c taking =
      newest_none image_version 1 image c (omega arith) taking.elsewhere none
      (⊎_elim (λ gone. gone) (λ same. same ∙ none_shown image 1 (omega arith) none) (taking.own image_version))

  -- taking the slot
  pub unbegun_taking : (c : Image) → TakingLeaves 1 image c → Unbegun image c
  unbegun_taking c taking = record {
    none = still_none c taking;
    outside = record { count = taking.torn.count; others = λ at gate body. taking.torn.others at gate };
  }

  module _ (taken : Image) (is_taken : IsTaken 1 image taken) where
    none_behind : (c : Image) → BodyTorn 1 taken c → newest image_version c ≡ None
    none_behind c written =
        newest_none image_version 1 taken c (omega arith) written.elsewhere (still_none taken is_taken.taking)
        (written.own is_taken.closed image_version)

    outside_body : (c : Image) → Torn (body_sector 1) taken c → SameOutside 1 image c
    outside_body c torn = record {
      count = torn.count ∙ is_taken.taking.torn.count;
      others = λ at gate body. torn.others at body ∙ is_taken.taking.torn.others at gate;
    }

    -- writing the body
    pub unbegun_body : (c : Image) → BodyTorn 1 taken c → Unbegun image c
    unbegun_body c written = record { none = none_behind c written; outside = outside_body c written.torn }

    module _ (enough : fewest_sectors ≤ sectors) (few : sectors ≤ most_sectors) (fits : FitsSeal (new_seal tag sectors)) where
      abbrev filled : Image
      filled = slice_set taken (body_sector 1) (body_bytes (new_seal tag sectors))

      is_image : IsImage sectors taken
      is_image = IsImage-torn sectors image taken (gate_sector 1) is is_taken.taking.torn

      torn_filled : Torn (body_sector 1) taken filled
      torn_filled = Torn-set taken (body_sector 1) (body_bytes (new_seal tag sectors)) (length-body_bytes (new_seal tag sectors) fits)

      is_filled : IsImage sectors filled
      is_filled = IsImage-torn sectors taken filled (body_sector 1) is_image torn_filled

      seal_behind : behind image_version filled 1 ≡ Some (new_seal tag sectors)
      seal_behind = behind_written sectors taken is_image (new_seal tag sectors) fits enough

      none_filled : newest image_version filled ≡ None
      none_filled = none_behind filled (torn_body 1 taken filled torn_filled)

      outside_gate : (c : Image) → Torn (gate_sector 1) filled c → SameOutside 1 image c
      outside_gate c torn = record {
        count = torn.count ∙ (outside_body filled torn_filled).count;
        others = λ at gate body. torn.others at gate ∙ (outside_body filled torn_filled).others at gate body;
      }

      begun : (c : Image) → GateTorn 1 filled c → seal_at image_version c 1 ≡ Some (new_seal tag sectors) → Begun tag image c
      begun c opening shown =
          let counts = newest_begins image_version 1 filled c (omega arith) opening.elsewhere (new_seal tag sectors) none_filled shown in
          record {
            counts = counts ∙ ap (λ n. Some (new_seal tag n)) (sym is.count);
            new =
                subst (λ n. Holds tag c (first_standing n)) (sym is.count)
                (holds_over c (new_held tag sectors) (first_standing sectors)
                (new_stands_over tag sectors c enough few (omega (arith, opening.torn.count, is_filled.count)) counts));
            outside = outside_gate c opening.torn;
          }

      -- opening the gate
      pub beginning_gate : (c : Image) → GateTorn 1 filled c → Beginning tag image c
      beginning_gate c opening =
          ⊎_elim
          (λ hidden. record {
            shows = inl (newest_none image_version 1 filled c (omega arith) opening.elsewhere none_filled hidden);
            outside = outside_gate c opening.torn;
          })
          (λ shown.
          let done = begun c opening (shown ∙ seal_behind) in
          record { shows = inr done.new; outside = done.outside })
          (opening.own image_version)

      -- once it is open
      pub begun_opened : Begun tag image (slice_set filled (gate_sector 1) open_gate)
      begun_opened =
          let opened : Image = slice_set filled (gate_sector 1) open_gate in
          begun opened (torn_gate 1 filled opened (Torn-set filled (gate_sector 1) open_gate length-open_gate))
          (seal_at-open image_version 1 opened (gate_opened sectors filled is_filled 1 (omega arith) (omega (arith, enough)))
          ∙ behind_kept sectors filled is_filled 1 (omega arith) (omega (arith, enough)) image_version open_gate
          ∙ seal_behind)
