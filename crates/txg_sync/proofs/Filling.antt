-- What the stages of a group's sync leave of an image whose newest seal is known.
use Rattle.std.proofs.Common.{◌≡◌, ◌≢◌, ℕ, zero, suc, ◌+◌, ◌<◌, ◌≤◌, false, ◌||◌, ◌==◌, List, [], ◌∷◌, Option, Some, None, length, refl, sym, ◌∙◌, ap, subst, inl, inr, ⊎_elim, arith}
use Rattle.std.specs.Prelude.{IfSome, slice_set}
use Rattle.std.specs.List.{list_any, AllByRecursion}
use Rattle.disk_model.specs.Images.{Image, sector_at}
use Rattle.disk_model.specs.DiskLaws.{IsImage, Torn}
use Rattle.disk_model.proofs.Sectors.{IsImage-torn, Torn-set, sector_at-set, sector_at-set_other}
use Rattle.std.proofs.lemmas.Bool.{cases_eq, ne_eqb}
use Rattle.std.proofs.lemmas.List.{length-set}
use Rattle.pool_model.proofs.Lists.{all_from, all_front, all_back}
use Rattle.page_tree.specs.ChainWrites.{SameBut}
use Rattle.page_tree.proofs.ChainBack.{writes_at_places}
use Rattle.uber_ring.specs.Seals.{is_open}
use Rattle.uber_ring.specs.Spelling.{FitsSeal, body_bytes, open_gate}
use Rattle.uber_ring.specs.Ring.{slot_count, fewest_sectors, gate_sector, body_sector, gate_is_open, behind, seal_at, higher, highest, newest}
use Rattle.uber_ring.specs.RingWrites.{slot_of, GateTorn, BodyTorn, SameElsewhere}
use Rattle.uber_ring.specs.declared.seal.Seal.{Seal}
use Rattle.uber_ring.proofs.Gates.{length-open_gate}
use Rattle.uber_ring.proofs.RingLaws.{torn_gate, torn_body, seal_at-same, seal_at-open}
use Rattle.uber_ring.proofs.Newest.{newest_stays, newest_becomes}
use Rattle.uber_ring.proofs.SealLaws.{length-body_bytes}
use Rattle.uber_ring.proofs.Written.{behind_written, behind_kept, gate_opened}
use Rattle.pool_model.specs.Mirrors.{Stored}
use Rattle.table_state.specs.Flat.{image_version}
use Rattle.table_state.specs.Pools.{with_blocks, put_block, block_sector}
use Rattle.table_state.specs.Sealed.{ChainPart, places_in, HoldsParts}
use Rattle.txg_sync.specs.Stages.{TakingLeaves, IsTaken}
use Rattle.table_state.specs.Closing.{block_places}
use Rattle.txg_sync.specs.Writing.{group_places, IsStored, IsUnsealed, IsSealed, MayBeSealed}

-- slots that show the same show the same highest one
highest_same : (f g : ℕ → Option Seal) (count : ℕ) → ((slot : ℕ) → slot < count → f slot ≡ g slot) → highest f count ≡ highest g count
highest_same f g zero same = refl
highest_same f g (suc count) same = ap (λ (o : Option Seal). higher o (f count))
    (highest_same f g count (λ slot within. same slot (omega (arith, within)))) ∙ ap (higher (highest g count)) (same count (omega arith))

newest_same : (image c : Image) → ((slot : ℕ) → slot < slot_count → seal_at image_version c slot ≡ seal_at image_version image slot)
    → newest image_version c ≡ newest image_version image
unfolding newest
newest_same image c same = highest_same (seal_at image_version c) (seal_at image_version image) slot_count same

-- the next group's slot is another one
pub next_slot : (group : ℕ) → slot_of (group + 1) ≢ slot_of group
next_slot group same = omega (arith, same)

slot_within : (group : ℕ) → slot_of group < slot_count
slot_within group = omega arith

-- the ring lies before all places
abbrev pub AreBehindRing : List ℕ → Type 0
AreBehindRing places = AllByRecursion (λ place. 32 ≤ place) places

none_in_ring : (places : List ℕ) (at : ℕ) → AreBehindRing places → at < 32 → list_any (λ place. place == at) places ≡ false
none_in_ring [] at all within = refl
none_in_ring (place ∷ places) at all within = ap (λ b. b || list_any (λ p. p == at) places)
    (ne_eqb place at (λ same. omega (arith, same, all.0, within))) ∙ none_in_ring places at all.1 within

-- what differs in places behind the ring alone shows the same seals
module _ (places : List ℕ) (behind_ring : AreBehindRing places) (d c : Image) (same : SameBut places d c) where
  ring_same : (at : ℕ) → at < 32 → sector_at c at ≡ sector_at d at
  ring_same at within = same.others at (none_in_ring places at behind_ring within)

  seals_same : (version slot : ℕ) → slot < slot_count → seal_at version c slot ≡ seal_at version d slot
  seals_same version slot within = seal_at-same version slot d c same.count (ring_same (gate_sector slot) (omega (arith, within)))
      (ring_same (body_sector slot) (omega (arith, within)))

  pub still_closed : (slot : ℕ) → slot < slot_count → gate_is_open d slot ≡ false → gate_is_open c slot ≡ false
  still_closed slot within closed = ap is_open (ring_same (gate_sector slot) (omega (arith, within))) ∙ closed

  pub newest_beside : newest image_version c ≡ newest image_version d
  newest_beside = newest_same d c (λ slot within. seals_same image_version slot within)

-- blocks stand alike in images that are alike behind the ring
blocks_alike : (contents : List Stored) (d image : Image) → length d ≡ length image
    → AllByRecursion (λ stored. stored.place < length image) contents → ((at : ℕ) → 32 ≤ at → sector_at d at ≡ sector_at image at)
    → (at : ℕ) → 32 ≤ at → sector_at (with_blocks contents d) at ≡ sector_at (with_blocks contents image) at
blocks_alike [] d image count within alike at beyond = alike at beyond
blocks_alike (stored ∷ contents) d image count within alike at beyond =
    blocks_alike contents (put_block d stored) (put_block image stored) (length-set d stored.place bytes ∙ count ∙ sym longer)
    (all_from _ _ (λ (s : Stored) lower. omega (arith, lower, longer)) contents within.1) put at beyond
  where
    bytes : List ℕ
    bytes = block_sector stored.bytes

    longer : length (put_block image stored) ≡ length image
    longer = length-set image stored.place bytes

    put : (i : ℕ) → 32 ≤ i → sector_at (put_block d stored) i ≡ sector_at (put_block image stored) i
    put i past =
        ⊎_elim
        (λ (here : i ≡ stored.place).
        ap (sector_at (put_block d stored)) here ∙ sector_at-set d stored.place bytes (omega (arith, within.0, count))
        ∙ sym (sector_at-set image stored.place bytes within.0) ∙ ap (sector_at (put_block image stored)) (sym here))
        (λ (other : i ≢ stored.place). sector_at-set_other d stored.place i bytes other ∙ alike i past
        ∙ sym (sector_at-set_other image stored.place i bytes other))
        (cases_eq i stored.place)

-- pages stay where nothing but the ring changes
held_behind : (parts : List ChainPart) (e c : Image) → AreBehindRing (places_in parts)
    → ((at : ℕ) → 32 ≤ at → sector_at c at ≡ sector_at e at) → HoldsParts e parts → HoldsParts c parts
held_behind [] e c behind_ring same held = tt
held_behind (part ∷ parts) e c behind_ring same held = (
  writes_at_places e c part.places part.records held.0
      (all_from _ _ same part.places (all_front (λ place. 32 ≤ place) part.places (places_in parts) behind_ring)),
  held_behind parts e c (all_back (λ place. 32 ≤ place) part.places (places_in parts) behind_ring) same held.1,
)

module _ (group sectors : ℕ) (image : Image) (is : IsImage sectors image) (enough : fewest_sectors ≤ sectors) (before : Seal)
    (counts : newest image_version image ≡ Some before) (follows : group ≡ before.group + 1) (contents : List Stored)
    (parts : List ChainPart)
    (behind_ring : AreBehindRing (group_places contents parts)) (on_disk : AllByRecursion (λ stored. stored.place < sectors) contents) where
  abbrev slot : ℕ
  slot = slot_of group

  abbrev places : List ℕ
  places = group_places contents parts

  apart : slot ≢ slot_of before.group
  apart = subst (λ g. slot_of g ≢ slot_of before.group) (sym follows) (next_slot before.group)

  stays : (old new : Image) → SameElsewhere slot old new → newest image_version old ≡ Some before → seal_at image_version new slot ≡ None
      → newest image_version new ≡ newest image_version image
  stays old new elsewhere was none =
      newest_stays image_version slot old new (slot_within group) elsewhere before was apart
      (subst (λ (o : Option Seal). IfSome o (λ b. b.group < before.group)) (sym none) tt) ∙ sym counts

  -- taking the slot
  pub unsealed_taking : (c : Image) → TakingLeaves slot image c → IsUnsealed slot places image c
  unsealed_taking c taking = record {
    only = record { count = taking.torn.count; others = λ at gate body none. taking.torn.others at gate };
    counts = ⊎_elim
        (λ none. stays image c taking.elsewhere counts none)
        (λ same. newest_same image c
        (λ s within. ⊎_elim (λ (here : s ≡ slot). subst (λ i. seal_at image_version c i ≡ seal_at image_version image i) (sym here) same)
        (λ (other : s ≢ slot). taking.elsewhere image_version s other) (cases_eq s slot)))
        (taking.own image_version);
  }

  module _ (taken : Image) (is_taken : IsTaken slot image taken) where
    -- writing blocks and pages
    pub unsealed_stored : (c : Image) → SameBut places taken c → IsUnsealed slot places image c
    unsealed_stored c same = record {
      only = record { count = same.count ∙ is_taken.taking.torn.count; others = λ at gate body none. same.others at none ∙ is_taken.taking.torn.others at gate };
      counts = newest_beside places behind_ring taken c same ∙ (unsealed_taking taken is_taken.taking).counts;
    }

    module _ (stored : Image) (same : SameBut places taken stored) where
      closed : gate_is_open stored slot ≡ false
      closed = still_closed places behind_ring taken stored same slot (slot_within group) is_taken.closed

      counts_stored : newest image_version stored ≡ Some before
      counts_stored = (unsealed_stored stored same).counts ∙ counts

      only_stored : (at : ℕ) → at ≢ gate_sector slot → at ≢ body_sector slot → list_any (λ place. place == at) places ≡ false
          → sector_at stored at ≡ sector_at image at
      only_stored = (unsealed_stored stored same).only.others

      -- writing the body
      pub unsealed_body : (c : Image) → BodyTorn slot stored c → IsUnsealed slot places image c
      unsealed_body c body = record {
        only = record { count = body.torn.count ∙ (unsealed_stored stored same).only.count; others = λ at gate at_body none. body.torn.others at at_body ∙ only_stored at gate at_body none };
        counts = stays stored c body.elsewhere counts_stored (body.own closed image_version);
      }

      module _ (is_stored : IsStored contents parts taken stored) (seal : Seal) (fits : FitsSeal seal) (own_group : seal.group ≡ group)
          (own_version : seal.version ≡ image_version) where
        abbrev filled : Image
        filled = slice_set stored (body_sector slot) (body_bytes seal)

        torn_filled : Torn (body_sector slot) stored filled
        torn_filled = Torn-set stored (body_sector slot) (body_bytes seal) (length-body_bytes seal fits)

        unsealed_filled : IsUnsealed slot places image filled
        unsealed_filled = unsealed_body filled (torn_body slot stored filled torn_filled)

        beyond : (c : Image) → Torn (gate_sector slot) filled c → (at : ℕ) → 32 ≤ at → sector_at c at ≡ sector_at stored at
        beyond c torn at past =
            torn.others at (λ e. omega (arith, e, past, slot_within group))
            ∙ torn_filled.others at (λ e. omega (arith, e, past, slot_within group))

        alike : (at : ℕ) → 32 ≤ at → sector_at taken at ≡ sector_at image at
        alike at past = is_taken.taking.torn.others at (λ e. omega (arith, e, past, slot_within group))

        -- the gate shows the seal
        sealed : (c : Image) → Torn (gate_sector slot) filled c → newest image_version c ≡ Some seal
            → IsSealed slot contents parts seal image c
        sealed c torn shown = record {
          only = record { count = torn.count ∙ unsealed_filled.only.count; others = λ at gate body none. torn.others at gate ∙ unsealed_filled.only.others at gate body none };
          counts = shown;
          held = held_behind parts stored c (all_back (λ place. 32 ≤ place) (block_places contents) (places_in parts) behind_ring)
              (beyond c torn) is_stored.held;
          blocks = λ at past none. beyond c torn at past ∙ is_stored.beside at none
              ∙ blocks_alike contents taken image is_taken.taking.torn.count
              (subst (λ n. AllByRecursion (λ stored. stored.place < n) contents) (sym is.count) on_disk) alike at past;
        }

        seal_behind : (whole : IsImage sectors stored) → behind image_version filled slot ≡ Some seal
        seal_behind whole =
            ap (λ v. behind v filled slot) (sym own_version)
            ∙ subst (λ g. behind seal.version (slice_set stored (body_sector (slot_of g)) (body_bytes seal)) (slot_of g) ≡ Some seal)
            own_group (behind_written sectors stored whole seal fits enough)

        shows : (c : Image) → SameElsewhere slot filled c → seal_at image_version c slot ≡ Some seal → newest image_version c ≡ Some seal
        shows c elsewhere own =
            newest_becomes image_version slot filled c (slot_within group) elsewhere before seal (unsealed_filled.counts ∙ counts) own
            (omega (arith, follows, own_group))

        -- opening the gate
        pub sealed_gate : (whole : IsImage sectors stored) (c : Image) → GateTorn slot filled c
            → MayBeSealed slot contents parts seal image c
        sealed_gate whole c opening =
            ⊎_elim
            (λ hidden. inl (record {
              only = record { count = opening.torn.count ∙ unsealed_filled.only.count; others = λ at gate body none. opening.torn.others at gate ∙ unsealed_filled.only.others at gate body none };
              counts = stays filled c opening.elsewhere (unsealed_filled.counts ∙ counts) hidden;
            }))
            (λ shown. inr (sealed c opening.torn (shows c opening.elsewhere (shown ∙ seal_behind whole))))
            (opening.own image_version)

        -- once it is open
        pub sealed_opened : (whole : IsImage sectors stored)
            → IsSealed slot contents parts seal image (slice_set filled (gate_sector slot) open_gate)
        sealed_opened whole =
            let opened : Image = slice_set filled (gate_sector slot) open_gate in
            let torn : Torn (gate_sector slot) filled opened = Torn-set filled (gate_sector slot) open_gate length-open_gate in
            let is_filled : IsImage sectors filled = IsImage-torn sectors stored filled (body_sector slot) whole torn_filled in
            sealed opened torn (shows opened (torn_gate slot filled opened torn).elsewhere
            (seal_at-open image_version slot opened (gate_opened sectors filled is_filled slot (slot_within group) (omega (arith, enough)))
            ∙ behind_kept sectors filled is_filled slot (slot_within group) (omega (arith, enough)) image_version open_gate
            ∙ seal_behind whole))
