-- What the stages of a group's sync leave of an image, before its gate may be open and after.
use Rattle.std.specs.Prelude.{◌≡◌, ◌≢◌, ◌+◌, ◌⊎◌, ◌≤◌, ⊤, ℕ, ◌==◌, false, List, ◌∷◌, [], ◌++◌, length, Option, Some, None}
use Rattle.std.specs.List.{list_any}
use Rattle.disk_model.specs.Images.{Image, sector_at}
use Rattle.disk_model.specs.DiskLaws.{Torn}
use Rattle.page_tree.specs.ChainWrites.{SameBut}
use Rattle.page_tree.specs.Pointers.{null_pointer}
use Rattle.uber_ring.specs.Ring.{gate_sector, body_sector, newest}
use Rattle.uber_ring.specs.declared.seal.Seal.{Seal}
use Rattle.pool_model.specs.Mirrors.{Stored}
use Rattle.table_state.specs.Closing.{block_places}
use Rattle.table_state.specs.Flat.{image_version}
use Rattle.table_state.specs.Pools.{with_blocks}
use Rattle.table_state.specs.Sealed.{ChainPart, places_in, roots_of, HoldsParts}

-- told contents in which these blocks stand
abbrev pub Stores : Option Image → Option Image → List Stored → Type 0
Stores None new contents = ⊤
Stores (Some image) new contents = new ≡ Some (with_blocks contents image)

-- all places that a group writes
abbrev pub group_places : List Stored → List ChainPart → List ℕ
group_places contents parts = block_places contents ++ places_in parts

-- a seal with these roots, and a null pointer behind them
abbrev pub with_roots : Seal → List ChainPart → Seal
with_roots seal parts = record seal { pointers = roots_of parts ++ null_pointer ∷ [] }

-- sectors that differ in none but these places
abbrev pub SameBeside : (places : List ℕ) → (image c : Image) → Type 0
SameBeside places image c = (at : ℕ) → list_any (λ place. place == at) places ≡ false → sector_at c at ≡ sector_at image at

-- blocks and pages are in their places
pub record IsStored (contents : List Stored) (parts : List ChainPart) (image c : Image) : Type 0 where
  pub only : SameBut (group_places contents parts) image c
  pub held : HoldsParts c parts
  pub beside : SameBeside (places_in parts) (with_blocks contents image) c

abbrev pub StoresParts : (contents : List Stored) → (parts : List ChainPart) → (old new : Option Image) → Type 0
StoresParts contents parts None new = ⊤
StoresParts contents parts (Some image) new = (stored : Image) × (new ≡ Some stored) × IsStored contents parts image stored

-- nothing but the two sectors of a slot and these places differs
pub record TouchesOnly (slot : ℕ) (places : List ℕ) (image c : Image) : Type 0 where
  pub count : length c ≡ length image
  pub others : (at : ℕ) → at ≢ gate_sector slot → at ≢ body_sector slot → list_any (λ place. place == at) places ≡ false
      → sector_at c at ≡ sector_at image at

-- the gate isn't open yet: the seal that counted still counts
pub record IsUnsealed (slot : ℕ) (places : List ℕ) (image c : Image) : Type 0 where
  pub only : TouchesOnly slot places image c
  pub counts : newest image_version c ≡ newest image_version image

-- the gate is open: this seal counts, and the pages and blocks stand at their places
pub record IsSealed (slot : ℕ) (contents : List Stored) (parts : List ChainPart) (seal : Seal) (image c : Image) : Type 0 where
  pub only : TouchesOnly slot (group_places contents parts) image c
  pub counts : newest image_version c ≡ Some seal
  pub held : HoldsParts c parts
  pub blocks : (at : ℕ) → 32 ≤ at → list_any (λ place. place == at) (places_in parts) ≡ false
      → sector_at c at ≡ sector_at (with_blocks contents image) at

-- at each moment the one or the other
abbrev pub MayBeSealed : (slot : ℕ) → (contents : List Stored) → (parts : List ChainPart) → Seal → (image c : Image) → Type 0
MayBeSealed slot contents parts seal image c = IsUnsealed slot (group_places contents parts) image c
    ⊎ IsSealed slot contents parts seal image c

abbrev pub Seals : (slot : ℕ) → (contents : List Stored) → (parts : List ChainPart) → Seal → (old new : Option Image) → Type 0
Seals slot contents parts seal None new = ⊤
Seals slot contents parts seal (Some image) new = (c : Image) × (new ≡ Some c) × IsSealed slot contents parts seal image c

-- where the write of the gate failed, the image is that of the sealed group but for the gate
pub record GateLeft (slot : ℕ) (contents : List Stored) (parts : List ChainPart) (seal : Seal) (image c : Image) : Type 0 where
  pub meant : Image
  pub is_sealed : IsSealed slot contents parts seal image meant
  pub torn : Torn (gate_sector slot) meant c

abbrev pub LeavesGate : (slot : ℕ) → (contents : List Stored) → (parts : List ChainPart) → Seal → (old new : Option Image) → Type 0
LeavesGate slot contents parts seal None new = ⊤
LeavesGate slot contents parts seal (Some image) new = (c : Image) × (new ≡ Some c) × GateLeft slot contents parts seal image c

-- the seal that counts is the one of the group before
abbrev pub FollowsSeal : (group : ℕ) → Option Image → Type 0
FollowsSeal group None = ⊤
FollowsSeal group (Some image) = (before : Seal) × (newest image_version image ≡ Some before) × (group ≡ before.group + 1)

-- told contents in which these chains stand
abbrev pub HoldsSince : Option Image → Option Image → List ChainPart → Type 0
HoldsSince None new parts = ⊤
HoldsSince (Some image) new parts = (c : Image) × (new ≡ Some c) × HoldsParts c parts
