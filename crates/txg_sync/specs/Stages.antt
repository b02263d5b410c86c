-- What the stages of a sync leave, of told contents and after a crash.
use Rattle.std.specs.Prelude.{◌≡◌, ◌⊎◌, ⊤, ℕ, false, List, length, slice_set, Option, Some, None}
use Rattle.disk_model.specs.Images.{Image}
use Rattle.disk_model.specs.DiskLaws.{IsImage, Torn}
use Rattle.uber_ring.specs.Ring.{gate_sector, body_sector, gate_is_open, seal_at, newest}
use Rattle.uber_ring.specs.RingWrites.{slot_of, SameElsewhere}
use Rattle.uber_ring.specs.Spelling.{FitsSeal, body_bytes}
use Rattle.uber_ring.specs.declared.seal.Seal.{Seal}
use Rattle.pool_model.specs.Mirrors.{Stored}
use Rattle.pool_model.specs.Run.{first_standing}
use Rattle.table_state.specs.Holding.{Holds}
use Rattle.table_state.specs.Spelling.{new_seal}
use Rattle.table_state.specs.Flat.{HasNoPool, image_version}
use Rattle.table_state.specs.Sealed.{ChainPart}
use Rattle.txg_sync.specs.FirstSeal.{NoneOrNew, SameOutside}
use Rattle.txg_sync.specs.Writing.{IsStored}

-- while a slot is taken nothing but its gate may change, and it shows the seal that it showed before, or none
pub record TakingLeaves (slot : ℕ) (image c : Image) : Type 0 where
  pub torn : Torn (gate_sector slot) image c
  pub elsewhere : SameElsewhere slot image c
  pub own : (version : ℕ) → (seal_at version c slot ≡ None) ⊎ (seal_at version c slot ≡ seal_at version image slot)

-- a slot that was taken is closed
pub record IsTaken (slot : ℕ) (image taken : Image) : Type 0 where
  pub taking : TakingLeaves slot image taken
  pub closed : gate_is_open taken slot ≡ false

abbrev pub Takes : (slot : ℕ) → (old new : Option Image) → Type 0
Takes slot None new = ⊤
Takes slot (Some image) new = (taken : Image) × (new ≡ Some taken) × IsTaken slot image taken

-- told contents of a slot whose taking failed
abbrev pub MayTake : (slot : ℕ) → (old new : Option Image) → Type 0
MayTake slot None new = ⊤
MayTake slot (Some image) new = (c : Image) × (new ≡ Some c) × TakingLeaves slot image c

-- until the gate of the first seal is written no seal counts, and only its slot changes
pub record Unbegun (image c : Image) : Type 0 where
  pub none : HasNoPool c
  pub outside : SameOutside 1 image c

-- told contents where the sealing failed before that gate
abbrev pub LeavesUnbegun : (old new : Option Image) → Type 0
LeavesUnbegun None new = ⊤
LeavesUnbegun (Some image) new = (c : Image) × (new ≡ Some c) × Unbegun image c

-- while the first seal is written no seal counts yet, or the image holds the new pool, and only its slot changes
pub record Beginning (tag : ℕ) (image c : Image) : Type 0 where
  pub shows : NoneOrNew tag (length image) c
  pub outside : SameOutside 1 image c

-- told contents where the sealing failed at the gate
abbrev pub LeavesBeginning : (tag : ℕ) → (old new : Option Image) → Type 0
LeavesBeginning tag None new = ⊤
LeavesBeginning tag (Some image) new = (c : Image) × (new ≡ Some c) × Beginning tag image c

-- the first seal counts
pub record Begun (tag : ℕ) (image c : Image) : Type 0 where
  pub counts : newest image_version c ≡ Some (new_seal tag (length image))
  pub new : Holds tag c (first_standing (length image))
  pub outside : SameOutside 1 image c

abbrev pub Begins : (tag : ℕ) → (old new : Option Image) → Type 0
Begins tag None new = ⊤
Begins tag (Some image) new = (c : Image) × (new ≡ Some c) × Begun tag image c

-- where the write of the first gate failed, the image is that of the new pool but for the gate
pub record FirstGateLeft (tag : ℕ) (image c : Image) : Type 0 where
  pub meant : Image
  pub begun : Begun tag image meant
  pub torn : Torn (gate_sector 1) meant c
  pub beginning : Beginning tag image c

abbrev pub LeavesFirstGate : (tag : ℕ) → (old new : Option Image) → Type 0
LeavesFirstGate tag None new = ⊤
LeavesFirstGate tag (Some image) new = (c : Image) × (new ≡ Some c) × FirstGateLeft tag image c

-- all of a group but its gate is written: its slot is taken, its blocks and pages stand at their places, and the body holds its seal
pub record IsFilled (contents : List Stored) (parts : List ChainPart) (seal : Seal) (image c : Image) : Type 0 where
  pub taken : Image
  pub is_taken : IsTaken (slot_of seal.group) image taken
  pub stored : Image
  pub is_stored : IsStored contents parts taken stored
  pub whole : IsImage (length image) stored
  pub fits : FitsSeal seal
  pub body : c ≡ slice_set stored (body_sector (slot_of seal.group)) (body_bytes seal)

abbrev pub Fills : (contents : List Stored) → (parts : List ChainPart) → Seal → (old new : Option Image) → Type 0
Fills contents parts seal None new = ⊤
Fills contents parts seal (Some image) new = (c : Image) × (new ≡ Some c) × IsFilled contents parts seal image c
