-- What the stages of the first seal come to, one after another, where the disk tells its contents and where it doesn't.
use Rattle.std.proofs.Common.{◌≡◌, ℕ, ◌<◌, ◌≤◌, length, Option, Some, None, Result, Ok, Err, sym, ◌∙◌, subst, inl}
use Rattle.std.specs.Prelude.{List, OnErr, slice_set}
use Rattle.disk_model.specs.Images.{Image}
use Rattle.disk_model.specs.DiskLaws.{IsImage, TellsImage, Stays, Holds, MayTouch, Torn, sector_bytes}
use Rattle.disk_model.proofs.Sectors.{Torn-set, sector_at-set_other}
use Rattle.std.proofs.lemmas.List.{length-set}
use Rattle.disk_model.specs.Crashes.{DiskState, LeavesOnly, NothingPending}
use Rattle.disk_model.proofs.Moments.{and_then, weakened}
use Rattle.uber_ring.specs.Spelling.{FitsSeal, body_bytes, open_gate}
use Rattle.uber_ring.specs.Ring.{gate_sector, body_sector, newest}
use Rattle.uber_ring.specs.RingWrites.{slot_of, WritingLeaves, OpeningLeaves, GateTorn, BodyTorn}
use Rattle.uber_ring.specs.declared.seal.Seal.{Seal}
use Rattle.uber_ring.proofs.RingLaws.{torn_body, torn_gate}
use Rattle.table_state.specs.SealForms.{fewest_sectors, most_sectors}
use Rattle.table_state.specs.Spelling.{new_seal}
use Rattle.table_state.specs.Flat.{image_version}
use Rattle.txg_sync.specs.Creating.{HasNoSeal}
use Rattle.txg_sync.specs.Stages.{TakingLeaves, MayTake, IsTaken, Takes, Unbegun, LeavesUnbegun, Beginning, Begins, LeavesFirstGate}
use Rattle.txg_sync.proofs.Beginnings.{unbegun_taking, unbegun_body, beginning_gate, begun_opened}

-- an image with a sector torn is one with that sector torn, whatever was set there
pub Torn-beside : (at : ℕ) (bytes : List ℕ) (d c : Image) → Torn at d c → Torn at (slice_set d at bytes) c
Torn-beside at bytes d c torn = record {
  count = torn.count ∙ sym (length-set d at bytes);
  others = λ i other. torn.others i other ∙ sym (sector_at-set_other d at i bytes other);
  whole = λ within. torn.whole (subst (λ n. at < n) (length-set d at bytes) within);
}

-- a write that may not last has touched no other sector
pub written_touches : {T E : Type 0} (result : Result T E) (at : ℕ) (bytes : List ℕ) (old mid new : Option Image)
    → length bytes ≡ sector_bytes → Holds old mid at bytes → Stays mid new → OnErr result (MayTouch old new at)
written_touches (Ok done) at bytes old mid new long held stays = tt
written_touches (Err failed) at bytes None mid new long held stays = tt
written_touches (Err failed) at bytes (Some image) mid new long held stays =
    (slice_set image at bytes, subst (λ (o : Option Image). Stays o new) held stays, Torn-set image at bytes long)

-- told contents after a write
pub holds_some : (image : Image) (old new : Option Image) (at : ℕ) (bytes : List ℕ) → old ≡ Some image → Holds old new at bytes
    → new ≡ Some (slice_set image at bytes)
holds_some image old new at bytes told held = subst (λ (o : Option Image). Holds o new at bytes) told held

-- the only outcome where nothing is pending
pub only_told : (image : Image) (told : Option Image) (may_leave : Image → Type 0) → told ≡ Some image → NothingPending told may_leave
    → (c : Image) → may_leave c → c ≡ image
only_told image told may_leave same still = (subst (λ (o : Option Image). NothingPending o may_leave) same still).1

-- a new seal's body, told of the seal's fields
as_new : (tag sectors : ℕ) (seal : Seal) (old new : Option Image) → seal ≡ new_seal tag sectors
    → Holds old new (body_sector (slot_of seal.group)) (body_bytes seal) → Holds old new (body_sector 1) (body_bytes (new_seal tag sectors))
as_new tag sectors seal old new same held = subst (λ (s : Seal). Holds old new (body_sector (slot_of s.group)) (body_bytes s)) same held

-- all stages succeeded
pub begins_of : (tag sectors : ℕ) (seal : Seal) (old mid later new : Option Image) → fewest_sectors ≤ sectors → sectors ≤ most_sectors
    → TellsImage sectors old → HasNoSeal old → FitsSeal seal → seal ≡ new_seal tag sectors
    → Takes 1 old mid → Holds mid later (body_sector (slot_of seal.group)) (body_bytes seal) → Holds later new (gate_sector 1) open_gate
    → Begins tag old new
begins_of tag sectors seal None mid later new enough few is none fits same takes filled opened = tt
begins_of tag sectors seal (Some image) mid later new enough few is none fits same takes filled opened =
    let taken : Image = takes.0 in
    let seen_later = holds_some taken mid later _ _ takes.1 (as_new tag sectors seal mid later same filled) in (
      slice_set (slice_set taken (body_sector 1) (body_bytes (new_seal tag sectors))) (gate_sector 1) open_gate,
      holds_some _ later new _ _ seen_later opened,
      begun_opened tag sectors image is none taken takes.2 enough few (subst FitsSeal same fits),
    )

-- or the slot wasn't taken
pub unbegun_before : (tag sectors : ℕ) (old new : Option Image) → TellsImage sectors old → HasNoSeal old → MayTake 1 old new
    → LeavesUnbegun old new
unbegun_before tag sectors None new is none may = tt
unbegun_before tag sectors (Some image) new is none may = (may.0, may.1, unbegun_taking tag sectors image is none may.0 may.2)

-- or the body wasn't written
pub unbegun_behind : (tag sectors : ℕ) (seal : Seal) (old mid new : Option Image) → TellsImage sectors old → HasNoSeal old
    → seal ≡ new_seal tag sectors → Takes 1 old mid → MayTouch mid new (body_sector (slot_of seal.group)) → LeavesUnbegun old new
unbegun_behind tag sectors seal None mid new is none same takes touch = tt
unbegun_behind tag sectors seal (Some image) mid new is none same takes touch =
    let touched : MayTouch (Some takes.0) new (body_sector 1) = subst (λ (o : Option Image). MayTouch o new (body_sector 1)) takes.1
    (subst (λ (s : Seal). MayTouch mid new (body_sector (slot_of s.group))) same touch) in (
      touched.0,
      touched.1,
      unbegun_body tag sectors image is none takes.0 takes.2 touched.0 (torn_body 1 takes.0 touched.0 touched.2),
    )

-- or the write of the gate failed
pub first_gate_left : (tag sectors : ℕ) (seal : Seal) (old mid later new : Option Image) → fewest_sectors ≤ sectors → sectors ≤ most_sectors
    → TellsImage sectors old → HasNoSeal old → FitsSeal seal → seal ≡ new_seal tag sectors → Takes 1 old mid
    → Holds mid later (body_sector (slot_of seal.group)) (body_bytes seal) → MayTouch later new (gate_sector 1) → LeavesFirstGate tag old
    new
first_gate_left tag sectors seal None mid later new enough few is none fits same takes filled touch = tt
first_gate_left tag sectors seal (Some image) mid later new enough few is none fits same takes filled touch =
    let taken : Image = takes.0 in
    let seen_later = holds_some taken mid later _ _ takes.1 (as_new tag sectors seal mid later same filled) in
    let filled_here : Image = slice_set taken (body_sector 1) (body_bytes (new_seal tag sectors)) in
    let touched : MayTouch (Some filled_here) new (gate_sector 1) = subst (λ (o : Option Image). MayTouch o new (gate_sector 1)) seen_later
    touch in (
      touched.0,
      touched.1,
      record {
        meant = slice_set filled_here (gate_sector 1) open_gate;
        begun = begun_opened tag sectors image is none taken takes.2 enough few (subst FitsSeal same fits);
        torn = Torn-beside (gate_sector 1) open_gate filled_here touched.0 touched.2;
        beginning = beginning_gate tag sectors image is none taken takes.2 enough few (subst FitsSeal same fits) touched.0
            (torn_gate 1 filled_here touched.0 touched.2);
      },
    )

module _ (tag sectors : ℕ) (image : Image) (old : DiskState) (told : old.seen ≡ Some image) (tells : TellsImage sectors old.seen)
    (no_seal : HasNoSeal old.seen) where
  is : IsImage sectors image
  is = subst (λ (o : Option Image). TellsImage sectors o) told tells

  none : newest image_version image ≡ None
  none = subst HasNoSeal told no_seal

  -- where the gate wasn't reached
  pub unbegun_at_each : {mid : DiskState} → LeavesOnly old mid (Unbegun image) → LeavesOnly old mid (Beginning tag image)
  unbegun_at_each run = weakened (Beginning tag image) run (λ c before. record { shows = inl before.none; outside = before.outside })

  -- while the slot is taken
  pub while_taking : {mid : DiskState} → LeavesOnly old mid (TakingLeaves 1 image) → LeavesOnly old mid (Unbegun image)
  while_taking run = weakened (Unbegun image) run (unbegun_taking tag sectors image is none)

  module _ (enough : fewest_sectors ≤ sectors) (few : sectors ≤ most_sectors) (seal : Seal) (fits : FitsSeal seal)
      (same : seal ≡ new_seal tag sectors)
      {mid : DiskState} (taking : LeavesOnly old mid (TakingLeaves 1 image)) (takes : Takes 1 old.seen mid.seen)
      (still : NothingPending mid.seen mid.may_leave) where
    taken : (taken : Image) × (mid.seen ≡ Some taken) × IsTaken 1 image taken
    taken = subst (λ (o : Option Image). Takes 1 o mid.seen) told takes

    -- while the body is written
    pub while_filling : {later : DiskState} → LeavesOnly mid later (WritingLeaves (slot_of seal.group) mid.may_leave)
        → LeavesOnly old later (Unbegun image)
    while_filling filling =
        and_then (while_taking taking)
        (weakened (Unbegun image) filling each)
      where
        each : (c : Image) → WritingLeaves (slot_of seal.group) mid.may_leave c → Unbegun image c
        each c from =
            unbegun_body tag sectors image is none taken.0 taken.2 c
            (subst (λ (d : Image). BodyTorn 1 d c) (only_told taken.0 mid.seen mid.may_leave taken.1 still from.0 from.1)
            (subst (λ (s : Seal). BodyTorn (slot_of s.group) from.0 c) same from.2))

    -- while the gate is opened
    pub while_opening : {later new : DiskState} → LeavesOnly mid later (WritingLeaves (slot_of seal.group) mid.may_leave)
        → Holds mid.seen later.seen (body_sector (slot_of seal.group)) (body_bytes seal) → NothingPending later.seen later.may_leave
        → LeavesOnly later new (OpeningLeaves 1 later.may_leave) → LeavesOnly old new (Beginning tag image)
    while_opening {later} filling filled still_later opening =
        and_then (unbegun_at_each (while_filling filling))
        (weakened (Beginning tag image) opening each)
      where
        seen_later : later.seen ≡ Some (slice_set taken.0 (body_sector 1) (body_bytes (new_seal tag sectors)))
        seen_later = holds_some taken.0 mid.seen later.seen _ _ taken.1 (as_new tag sectors seal mid.seen later.seen same filled)

        each : (c : Image) → OpeningLeaves 1 later.may_leave c → Beginning tag image c
        each c from =
            beginning_gate tag sectors image is none taken.0 taken.2 enough few (subst FitsSeal same fits) c
            (subst (λ (d : Image). GateTorn 1 d c) (only_told _ later.seen later.may_leave seen_later still_later from.0 from.1) from.2)
