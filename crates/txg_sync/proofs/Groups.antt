-- What the stages of a group's sync come to, one after another, where the disk tells its contents and where it doesn't.
use Rattle.std.proofs.Common.{◌≡◌, ℕ, zero, suc, ◌<◌, ◌≤◌, List, [], ◌∷◌, ◌++◌, Option, Some, None, length, map, drop, get_or, refl, sym, ap, subst, ◌∙◌, arith, inl}
use Rattle.std.specs.Prelude.{slice_set}
use Rattle.std.specs.List.{AllByRecursion}
use Rattle.disk_model.specs.Images.{Image}
use Rattle.disk_model.specs.DiskLaws.{IsImage, TellsImage, Holds, MayTouch, Torn}
use Rattle.disk_model.specs.Crashes.{DiskState, LeavesOnly, NothingPending}
use Rattle.disk_model.proofs.Moments.{and_then, weakened}
use Rattle.page_tree.specs.ChainWrites.{SameBut, ChainLeaves, AreOpen}
use Rattle.page_tree.proofs.OpenPlaces.{is_open-parts}
use Rattle.page_tree.specs.Pointers.{null_pointer}
use Rattle.page_tree.specs.declared.pointer.PagePtr.{PagePtr}
use Rattle.uber_ring.specs.Spelling.{FitsSeal, body_bytes, open_gate}
use Rattle.uber_ring.specs.Ring.{fewest_sectors, gate_sector, body_sector}
use Rattle.uber_ring.specs.RingWrites.{slot_of, WritingLeaves, OpeningLeaves, GateTorn, BodyTorn}
use Rattle.uber_ring.specs.declared.seal.Seal.{Seal}
use Rattle.pool_model.specs.declared.closed.StoredBlock.{StoredBlock}
use Rattle.pool_model.specs.Mirrors.{Stored, stored_of}
use Rattle.table_state.specs.Flat.{image_version}
use Rattle.table_state.specs.Sealed.{ChainPart, places_in, roots_of}
use Rattle.txg_sync.specs.Stages.{TakingLeaves, IsTaken, Takes, IsFilled, Fills}
use Rattle.table_state.specs.Closing.{block_places}
use Rattle.txg_sync.specs.Writing.{group_places, with_roots, StoresParts, IsUnsealed, MayBeSealed, Seals, LeavesGate, FollowsSeal}
use Rattle.txg_sync.proofs.Filling.{AreBehindRing, unsealed_taking, unsealed_stored, unsealed_body, sealed_gate, sealed_opened}
use Rattle.txg_sync.proofs.Sealing.{Torn-beside, holds_some, only_told}
use Rattle.pool_model.proofs.Loops.{all_mapped}

-- a fact of each index is one of each element
pub each_of : {X : Type 0} (P : X → Type 0) (xs : List X) → ((k : ℕ) (d : X) → k < length xs → P (get_or xs k d)) → AllByRecursion P xs
each_of P [] at = tt
each_of P (x ∷ xs) at = (at zero x (omega arith), each_of P xs (λ k d within. at (suc k) d (omega (arith, within))))

both_lists : (P : ℕ → Type 0) (xs ys : List ℕ) → AllByRecursion P xs → AllByRecursion P ys → AllByRecursion P (xs ++ ys)
both_lists P [] ys first second = second
both_lists P (x ∷ xs) ys first second = (first.0, both_lists P xs ys first.1 second)

open_behind : (sectors : ℕ) (named places : List ℕ) → AreOpen sectors named places → AreBehindRing places
open_behind sectors named [] all = tt
open_behind sectors named
    (place ∷ places) all = ((is_open-parts sectors named place all.0).from, open_behind sectors (named ++ place ∷ []) places all.1)

-- blocks and pages lie behind the ring
pub group_behind : (sectors : ℕ) (contents : List StoredBlock) (parts : List ChainPart)
    → ((k : ℕ) (d : StoredBlock) → k < length contents → 32 ≤ (get_or contents k d).place) → AreOpen sectors [] (places_in parts)
    → AreBehindRing (group_places (map stored_of contents) parts)
group_behind sectors contents parts behind places =
    both_lists (λ place. 32 ≤ place) (block_places (map stored_of contents)) (places_in parts)
    (all_mapped (λ place. 32 ≤ place) (λ (s : Stored). s.place) (map stored_of contents)
    (all_mapped (λ (s : Stored). 32 ≤ s.place) stored_of contents (each_of (λ (s : StoredBlock). 32 ≤ s.place) contents behind)))
    (open_behind sectors [] (places_in parts) places)

-- blocks lie on the disk
pub group_within : (sectors : ℕ) (contents : List StoredBlock)
    → ((k : ℕ) (d : StoredBlock) → k < length contents → (get_or contents k d).place < sectors)
    → AllByRecursion (λ stored. stored.place < sectors) (map stored_of contents)
group_within sectors contents within = all_mapped (λ (s : Stored). s.place < sectors) stored_of contents
    (each_of (λ (s : StoredBlock). s.place < sectors) contents within)

-- the pointers that were written are the seal's
pub rooted_is : (seal sealed : Seal) (parts : List ChainPart) (pointers initial : List PagePtr)
    → sealed ≡ record seal { pointers = pointers } → pointers ≡ roots_of parts ++ drop (length parts) initial → length parts ≡ 5
    → drop 5 initial ≡ null_pointer ∷ []
    → sealed ≡ with_roots seal parts
rooted_is seal sealed parts pointers initial is roots five rest =
    is ∙ ap (λ (ps : List PagePtr). record seal { pointers = ps })
    (roots ∙ ap (λ n. roots_of parts ++ drop n initial) five ∙ ap (λ (ps : List PagePtr). roots_of parts ++ ps) rest)

module _ (sectors : ℕ) (enough : fewest_sectors ≤ sectors) (seal : Seal) (contents : List Stored) (parts : List ChainPart)
    (behind_ring : AreBehindRing (group_places contents parts)) (on_disk : AllByRecursion (λ stored. stored.place < sectors) contents) where
  abbrev slot : ℕ
  slot = slot_of seal.group

  abbrev rooted : Seal
  rooted = with_roots seal parts

  -- all but the gate was written
  pub fills_of : (sealed : Seal) (is_sealed : sealed ≡ with_roots seal parts) (fits : FitsSeal sealed) (old mid later filled : Option Image)
      → TellsImage sectors old → Takes slot old mid → StoresParts contents parts mid later → TellsImage sectors later
      → Holds later filled (body_sector (slot_of sealed.group)) (body_bytes sealed) → Fills contents parts rooted old filled
  fills_of sealed is_sealed fits None mid later filled is takes stores whole fills = tt
  fills_of sealed is_sealed fits (Some image) mid later filled is takes stores whole fills =
      let taken : Image = takes.0 in
      let stores_here : StoresParts contents parts (Some taken) later = subst
      (λ (o : Option Image). StoresParts contents parts o later) takes.1 stores in
      let stored : Image = stores_here.0 in
      let fills_here : Holds later filled (body_sector slot) (body_bytes rooted) = subst
      (λ (s : Seal). Holds later filled (body_sector (slot_of s.group)) (body_bytes s)) is_sealed fills in
      let is_whole : IsImage sectors stored = subst (λ (o : Option Image). TellsImage sectors o) stores_here.1 whole in (
        slice_set stored (body_sector slot) (body_bytes rooted),
        holds_some stored later filled (body_sector slot) (body_bytes rooted) stores_here.1 fills_here,
        record {
          taken = taken;
          is_taken = takes.2;
          stored = stored;
          is_stored = stores_here.2;
          whole = subst (λ n. IsImage n stored) (sym is.count) is_whole;
          fits = subst FitsSeal is_sealed fits;
          body = refl;
        },
      )

  -- and then the gate was opened
  pub seals_of : (own_version : seal.version ≡ image_version) (old filled new : Option Image) → TellsImage sectors old
      → FollowsSeal seal.group old → Fills contents parts rooted old filled → Holds filled new (gate_sector slot) open_gate
      → Seals slot contents parts rooted old new
  seals_of own_version None filled new is follows fills opens = tt
  seals_of own_version (Some image) filled new is follows fills opens =
      let f : IsFilled contents parts rooted image fills.0 = fills.2 in (
        slice_set (slice_set f.stored (body_sector slot) (body_bytes rooted)) (gate_sector slot) open_gate,
        holds_some _ filled new _ _ (fills.1 ∙ ap (λ (c : Image). Some c) f.body) opens,
        sealed_opened seal.group sectors image is enough follows.0 follows.1 follows.2 contents parts behind_ring on_disk f.taken f.is_taken
            f.stored f.is_stored.only f.is_stored rooted f.fits refl own_version (subst (λ n. IsImage n f.stored) is.count f.whole),
      )

  -- or its write failed
  pub gate_left : (own_version : seal.version ≡ image_version) (old filled new : Option Image) → TellsImage sectors old
      → FollowsSeal seal.group old
      → Fills contents parts rooted old filled → MayTouch filled new (gate_sector slot) → LeavesGate slot contents parts rooted old new
  gate_left own_version None filled new is follows fills touch = tt
  gate_left own_version (Some image) filled new is follows fills touch =
      let f : IsFilled contents parts rooted image fills.0 = fills.2 in
      let touched : MayTouch (Some fills.0) new (gate_sector slot) = subst (λ (o : Option Image). MayTouch o new (gate_sector slot)) fills.1
      touch in (
        touched.0,
        touched.1,
        record {
          meant = slice_set (slice_set f.stored (body_sector slot) (body_bytes rooted)) (gate_sector slot) open_gate;
          is_sealed =
              sealed_opened seal.group sectors image is enough follows.0 follows.1 follows.2 contents parts behind_ring on_disk f.taken
              f.is_taken f.stored
              f.is_stored.only f.is_stored rooted f.fits refl own_version (subst (λ n. IsImage n f.stored) is.count f.whole);
          torn =
              Torn-beside (gate_sector slot) open_gate (slice_set f.stored (body_sector slot) (body_bytes rooted)) touched.0
              (subst (λ (d : Image). Torn (gate_sector slot) d touched.0) f.body touched.2);
        },
      )

  module _ (image : Image) (old : DiskState) (told : old.seen ≡ Some image) (tells : TellsImage sectors old.seen)
      (follows_old : FollowsSeal seal.group old.seen) where
    is : IsImage sectors image
    is = subst (λ (o : Option Image). TellsImage sectors o) told tells

    follows : FollowsSeal seal.group (Some image)
    follows = subst (FollowsSeal seal.group) told follows_old

    abbrev Before : Image → Type 0
    Before = IsUnsealed slot (group_places contents parts) image

    abbrev Either : Image → Type 0
    Either = MayBeSealed slot contents parts rooted image

    -- where the gate was not reached
    pub group_unsealed : {filled : DiskState} → LeavesOnly old filled Before → LeavesOnly old filled Either
    group_unsealed run = weakened Either run (λ c unsealed. inl unsealed)

    -- while the gate is opened
    pub group_opening : (own_version : seal.version ≡ image_version) {filled new : DiskState} → LeavesOnly old filled Before
        → Fills contents parts rooted old.seen filled.seen → NothingPending filled.seen filled.may_leave
        → LeavesOnly filled new (OpeningLeaves slot filled.may_leave) → LeavesOnly old new Either
    group_opening own_version {filled} filling fills still opening =
        and_then (group_unsealed filling)
        (weakened Either opening each)
      where
        fills_here : Fills contents parts rooted (Some image) filled.seen
        fills_here = subst (λ (o : Option Image). Fills contents parts rooted o filled.seen) told fills

        f : IsFilled contents parts rooted image fills_here.0
        f = fills_here.2

        each : (c : Image) → OpeningLeaves slot filled.may_leave c → Either c
        each c from =
            sealed_gate seal.group sectors image is enough follows.0 follows.1 follows.2 contents parts behind_ring on_disk f.taken
            f.is_taken f.stored f.is_stored.only f.is_stored rooted f.fits refl own_version
            (subst (λ n. IsImage n f.stored) is.count f.whole) c
            (subst (λ (d : Image). GateTorn slot d c)
            (only_told _ filled.seen filled.may_leave (fills_here.1 ∙ ap (λ (d : Image). Some d) f.body) still from.0 from.1) from.2)

    -- while the slot is taken
    pub group_taking : {mid : DiskState} → LeavesOnly old mid (TakingLeaves slot image) → LeavesOnly old mid Before
    group_taking run =
        weakened Before run (λ c taking.
        (unsealed_taking seal.group sectors image is enough follows.0 follows.1 follows.2 contents parts behind_ring on_disk c taking))

    module _ {mid : DiskState} (taking : LeavesOnly old mid (TakingLeaves slot image)) (takes : Takes slot old.seen mid.seen)
        (still : NothingPending mid.seen mid.may_leave) where
      taken : (taken : Image) × (mid.seen ≡ Some taken) × IsTaken slot image taken
      taken = subst (λ (o : Option Image). Takes slot o mid.seen) told takes

      -- while blocks and pages are written
      pub group_storing : {later : DiskState} → LeavesOnly mid later (ChainLeaves (group_places contents parts) mid.may_leave)
          → LeavesOnly old later Before
      group_storing storing =
          and_then (group_taking taking)
          (weakened Before storing
          (λ c from. (unsealed_stored seal.group sectors image is enough follows.0 follows.1 follows.2 contents parts behind_ring on_disk
          taken.0 taken.2 c (stored_from c from))))
        where
          stored_from : (c : Image) → ChainLeaves (group_places contents parts) mid.may_leave c
              → SameBut (group_places contents parts) taken.0 c
          stored_from c from =
              subst (λ (d : Image). SameBut (group_places contents parts) d c)
              (only_told taken.0 mid.seen mid.may_leave taken.1 still from.0 from.1) from.2

      module _ {later : DiskState} (storing : LeavesOnly mid later (ChainLeaves (group_places contents parts) mid.may_leave))
          (at_end : (c : Image) → later.may_leave c → ChainLeaves (group_places contents parts) mid.may_leave c)
          (sealed : Seal) (is_sealed : sealed ≡ with_roots seal parts) (fits : FitsSeal sealed) where
        -- while the body is written
        pub group_filling : {filled : DiskState} → LeavesOnly later filled (WritingLeaves (slot_of sealed.group) later.may_leave)
            → LeavesOnly old filled Before
        group_filling filling =
            and_then (group_storing storing)
            (weakened Before filling each)
          where
            each : (c : Image) → WritingLeaves (slot_of sealed.group) later.may_leave c → Before c
            each c from =
                let earlier = at_end from.0 from.1 in
                (unsealed_body seal.group sectors image is enough follows.0 follows.1 follows.2 contents parts behind_ring on_disk taken.0
                taken.2 from.0
                (subst (λ (d : Image). SameBut (group_places contents parts) d from.0)
                (only_told taken.0 mid.seen mid.may_leave taken.1 still earlier.0 earlier.1) earlier.2)
                c (subst (λ (s : Seal). BodyTorn (slot_of s.group) from.0 c) is_sealed from.2))
