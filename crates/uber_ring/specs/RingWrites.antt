-- In which slot of the ring a group's seal is written, and what each write there leaves.
use Rattle.std.specs.Prelude.{◌≡◌, ◌≢◌, ◌⊎◌, ℕ, ◌%◌, Bool, false, Option, None, MatchBool}
use Rattle.disk_model.specs.Images.{Image}
use Rattle.disk_model.specs.DiskLaws.{Torn, Stays, Holds, MayTouch}
use Rattle.uber_ring.specs.Spelling.{closed_gate}
use Rattle.uber_ring.specs.Ring.{slot_count, gate_sector, body_sector, gate_is_open, behind, seal_at}

-- how many sectors the ring takes
abbrev pub ring_sectors : ℕ
ring_sectors = 32

-- the slot that a group's seal belongs in
abbrev pub slot_of : (group : ℕ) → ℕ
slot_of group = group % slot_count

-- every slot but this one has the same valid seal
abbrev pub SameElsewhere : (slot : ℕ) → (old new : Image) → Type 0
SameElsewhere slot old new = (version other : ℕ) → other ≢ slot → seal_at version new other ≡ seal_at version old other

-- what a write of a slot's gate may leave: the slot has no valid seal, or the one that stands behind the gate
pub record GateTorn (slot : ℕ) (old new : Image) : Type 0 where
  pub torn : Torn (gate_sector slot) old new
  pub elsewhere : SameElsewhere slot old new
  pub own : (version : ℕ) → (seal_at version new slot ≡ None) ⊎ (seal_at version new slot ≡ behind version old slot)
  pub hidden : (version : ℕ) → behind version new slot ≡ behind version old slot

-- what a write of a slot's body may leave: behind a closed gate, no valid seal
pub record BodyTorn (slot : ℕ) (old new : Image) : Type 0 where
  pub torn : Torn (body_sector slot) old new
  pub elsewhere : SameElsewhere slot old new
  pub own : gate_is_open old slot ≡ false → (version : ℕ) → seal_at version new slot ≡ None

-- what closing a slot may leave: a gate that was open may be torn, and one that was closed isn't touched
abbrev pub ClosingLeaves : (slot : ℕ) → (was_open : Bool) → (old : Image → Type 0) → Image → Type 0
ClosingLeaves slot was_open old c = (d : Image) × old d × MatchBool was_open (GateTorn slot d c) (c ≡ d)

-- what opening a slot may leave
abbrev pub OpeningLeaves : (slot : ℕ) → (old : Image → Type 0) → Image → Type 0
OpeningLeaves slot old c = (d : Image) × old d × GateTorn slot d c

-- what writing a slot's body may leave
abbrev pub WritingLeaves : (slot : ℕ) → (old : Image → Type 0) → Image → Type 0
WritingLeaves slot old c = (d : Image) × old d × BodyTorn slot d c

-- told contents of a slot that was closed, or found closed
abbrev pub Closes : (slot : ℕ) → (was_open : Bool) → (old new : Option Image) → Type 0
Closes slot was_open old new = MatchBool was_open (Holds old new (gate_sector slot) closed_gate) (Stays old new)

-- told contents of a slot whose closing failed
abbrev pub MayClose : (slot : ℕ) → (was_open : Bool) → (old new : Option Image) → Type 0
MayClose slot was_open old new = MatchBool was_open (MayTouch old new (gate_sector slot)) (Stays old new)
