-- What the taking of a slot leaves.
use Rattle.std.proofs.Common.{◌≡◌, ℕ, ◌<◌, ◌≤◌, Bool, true, false, Option, Some, None, refl, sym, subst, ◌∙◌, inl, inr, ⊎_elim}
use Rattle.std.specs.Prelude.{IfSome, MatchBool, slice_set}
use Rattle.disk_model.specs.Images.{Image}
use Rattle.disk_model.specs.DiskLaws.{IsImage, TellsImage, Stays}
use Rattle.disk_model.specs.Crashes.{DiskState, LeavesOnly, NothingPending}
use Rattle.disk_model.specs.DiskLaws.{Elapses, IsDisk, SameOutcomes}
use Rattle.disk_model.proofs.Moments.{started, goes_on, and_then, weakened}
use Rattle.disk_model.proofs.Sectors.{Torn-same, Torn-set}
use Rattle.uber_ring.specs.Spelling.{closed_gate}
use Rattle.uber_ring.specs.Ring.{slot_count, gate_sector, gate_is_open}
use Rattle.uber_ring.specs.RingWrites.{ring_sectors, GateTorn, Closes, ClosingLeaves, MayClose}
use Rattle.uber_ring.proofs.RingLaws.{torn_gate, seal_at-open}
use Rattle.uber_ring.proofs.Gates.{length-closed_gate}
use Rattle.uber_ring.proofs.Written.{gate_closed}
use Rattle.txg_sync.specs.Stages.{MayTake, TakingLeaves, Takes}

module _ (slot sectors : ℕ) (image : Image) (is : IsImage sectors image) where
  -- nothing was written
  pub still_taking : TakingLeaves slot image image
  still_taking = record
      { torn = Torn-same sectors image (gate_sector slot) is; elsewhere = λ version other differs. refl; own = λ version. inr refl }

  -- a gate that was open and is torn shows its seal or none
  pub taking_open : (c : Image) → gate_is_open image slot ≡ true → GateTorn slot image c → TakingLeaves slot image c
  taking_open c shown torn = record {
    torn = torn.torn;
    elsewhere = torn.elsewhere;
    own = λ version. ⊎_elim (λ none. inl none) (λ hidden. inr (hidden ∙ sym (seal_at-open version slot image shown))) (torn.own version);
  }

  -- an outcome of the closing
  pub taking_of : (was_open : Bool) (d c : Image) → was_open ≡ gate_is_open image slot → d ≡ image
      → MatchBool was_open (GateTorn slot d c) (c ≡ d) → TakingLeaves slot image c
  taking_of true d c gate same step = taking_open c (sym gate) (subst (λ (i : Image). GateTorn slot i c) same step)
  taking_of false d c gate same step = subst (λ (i : Image). TakingLeaves slot image i) (sym (step ∙ same)) still_taking

  -- what is told after it
  pub taken_of : (was_open : Bool) (new : Option Image) → slot < slot_count → ring_sectors ≤ sectors → was_open ≡ gate_is_open image slot
      → Closes slot was_open (Some image) new → Takes slot (Some image) new
  taken_of true new in_ring enough gate closes = (
    slice_set image (gate_sector slot) closed_gate,
    closes,
    record {
      taking = taking_open (slice_set image (gate_sector slot) closed_gate) (sym gate)
          (torn_gate slot image (slice_set image (gate_sector slot) closed_gate)
          (Torn-set image (gate_sector slot) closed_gate length-closed_gate));
      closed = gate_closed sectors image is slot in_ring enough;
    },
  )
  taken_of false new in_ring enough gate closes = (image, closes, record { taking = still_taking; closed = sym gate })

  -- or where it failed
  pub left_of : (was_open : Bool) (new : Option Image) → was_open ≡ gate_is_open image slot → MayClose slot was_open (Some image) new
      → MayTake slot (Some image) new
  left_of true new gate touched = (touched.0, touched.1, taking_open touched.0 (sym gate) (torn_gate slot image touched.0 touched.2))
  left_of false new gate stays = (image, stays, still_taking)

-- told contents that stay are the same
pub stays_some : (image : Image) (old new : Option Image) → old ≡ Some image → Stays old new → new ≡ Some image
stays_some image old new told stays = subst (λ (o : Option Image). Stays o new) told stays

-- the same of contents that may not be told
pub takes_of : (slot sectors : ℕ) (was_open : Bool) (old mid later new : Option Image) → TellsImage sectors old → slot < slot_count
    → ring_sectors ≤ sectors → Stays old mid → IfSome mid (λ image. was_open ≡ gate_is_open image slot) → Stays mid later
    → Closes slot was_open later new
    → Takes slot old new
takes_of slot sectors was_open None mid later new is in_ring enough first gate second closes = tt
takes_of slot sectors was_open (Some image) mid later new is in_ring enough first gate second closes =
    let there : later ≡ Some image = stays_some image mid later first second in
    taken_of slot sectors image is was_open new in_ring enough
    (subst (λ (o : Option Image). IfSome o (λ i. was_open ≡ gate_is_open i slot)) first gate)
    (subst (λ (o : Option Image). Closes slot was_open o new) there closes)

-- what is told where the slot's closing failed
pub may_take : (slot sectors : ℕ) (was_open : Bool) (old mid later new : Option Image) → TellsImage sectors old → Stays old mid
    → IfSome mid (λ image. was_open ≡ gate_is_open image slot) → Stays mid later → MayClose slot was_open later new → MayTake slot old new
may_take slot sectors was_open None mid later new is first gate second touched = tt
may_take slot sectors was_open (Some image) mid later new is first gate second touched =
    left_of slot sectors image is was_open new (subst (λ (o : Option Image). IfSome o (λ i. was_open ≡ gate_is_open i slot)) first gate)
    (subst (λ (o : Option Image). MayClose slot was_open o new) (stays_some image mid later first second) touched)

-- or where it wasn't reached
pub not_taken : (slot sectors : ℕ) (old new : Option Image) → TellsImage sectors old → Stays old new → MayTake slot old new
not_taken slot sectors None new is stays = tt
not_taken slot sectors (Some image) new is stays = (image, stays, still_taking slot sectors image is)

-- a crash at each moment of it: the meter changes nothing that a crash may leave, and the closing what the ring says
pub while_taken : (slot sectors : ℕ) (image : Image) (is : IsImage sectors image) {old metered retired new : DiskState} (was_open : Bool)
    → old.seen ≡ Some image → NothingPending (Some image) old.may_leave → IsDisk old
    → Stays old.seen metered.seen → SameOutcomes old.may_leave metered.may_leave → Elapses old metered
    → IfSome metered.seen (λ i. was_open ≡ gate_is_open i slot)
    → SameOutcomes metered.may_leave retired.may_leave → Elapses metered retired
    → LeavesOnly retired new (ClosingLeaves slot was_open retired.may_leave) → LeavesOnly old new (TakingLeaves slot image)
while_taken slot sectors image is {old} {metered} {retired} was_open told pending here stays same_metered time_metered gate
    same_retired time_retired closing =
    and_then
    (goes_on
    (goes_on (started P (λ c left. still c (here.only_now c left))) time_metered (λ c left. still c (same_metered.no_more c left)))
    time_retired (λ c left. still c (earlier c left)))
    (weakened P closing
    (λ c step. taking_of slot sectors image is was_open step.0 c gate_now (pending.1 step.0 (earlier step.0 step.1)) step.2))
  where
    P : Image → Type 0
    P = TakingLeaves slot image

    still : (c : Image) → old.may_leave c → P c
    still c left = subst P (sym (pending.1 c left)) (still_taking slot sectors image is)

    earlier : (c : Image) → retired.may_leave c → old.may_leave c
    earlier c left = same_metered.no_more c (same_retired.no_more c left)

    gate_now : was_open ≡ gate_is_open image slot
    gate_now =
        subst (λ (o : Option Image). IfSome o (λ i. was_open ≡ gate_is_open i slot)) (stays_some image old.seen metered.seen told stays)
        gate
