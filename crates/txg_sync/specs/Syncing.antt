-- What the sync of a closed group comes to.
use Rattle.std.specs.Prelude.{◌≡◌, ◌≢◌, ◌⊎◌, ◌+◌, ⊤, ℕ, true, List, slice_index_or, Option, Some, None}
use Rattle.disk_model.specs.Images.{Image, sector_at}
use Rattle.disk_model.specs.DiskLaws.{Torn}
use Rattle.uber_ring.specs.Ring.{gate_sector, body_sector}
use Rattle.uber_ring.specs.RingWrites.{slot_of}
use Rattle.pool_model.specs.Group.{Standing}
use Rattle.table_state.specs.Closing.{PlainClosed, standing_with}
use Rattle.table_state.specs.Holding.{Holds}
use Rattle.table_state.specs.Over.{StandsOver}
use Rattle.table_state.specs.Pools.{Held}

-- every sector that something named is as it was, but the two of the next group's slot of the ring
abbrev pub KeepsNamed : Held → (image c : Image) → Type 0
KeepsNamed held image c =
    (at : ℕ) → at ≢ gate_sector (slot_of (held.group + 1)) → at ≢ body_sector (slot_of (held.group + 1))
    → slice_index_or held.used at true ≡ true → sector_at c at ≡ sector_at image at

-- what a crash leaves until the gate is written: what stood
pub record BeforeGate (image : Image) (held : Held) (s : Standing) (c : Image) : Type 0 where
  pub stands : Holds held.tag c s
  pub only : KeepsNamed held image c

-- what a crash at some moment of a sync leaves: what stood, or what stands after the group with these pages
pub record SyncLeaves (image : Image) (held : Held) (closed : PlainClosed) (s : Standing) (pages : List ℕ) (c : Image) : Type 0 where
  pub stands : Holds held.tag c s ⊎ Holds held.tag c (standing_with image held closed pages)
  pub only : KeepsNamed held image c

-- the group was synced: the pool in memory is over what stands after it
pub record IsSynced (image : Image) (held : Held) (closed : PlainClosed) (next : Held) (c : Image) : Type 0 where
  pub stands : StandsOver c next (standing_with image held closed next.pages)
  pub only : KeepsNamed held image c

abbrev pub Syncs : (old : Option Image) → (held : Held) → (closed : PlainClosed) → (next : Held) → (new : Option Image) → Type 0
Syncs None held closed next new = ⊤
Syncs (Some image) held closed next new = (c : Image) × (new ≡ Some c) × IsSynced image held closed next c

-- where the write of the gate failed, the image is one that holds what stands after the group, but for the gate
pub record LacksGate (image : Image) (held : Held) (closed : PlainClosed) (c : Image) : Type 0 where
  pub meant : Image
  pub pages : List ℕ
  pub stands : Holds held.tag meant (standing_with image held closed pages)
  pub torn : Torn (gate_sector (slot_of (held.group + 1))) meant c

abbrev pub StopsAtGate : (old : Option Image) → (held : Held) → (closed : PlainClosed) → (new : Option Image) → Type 0
StopsAtGate None held closed new = ⊤
StopsAtGate (Some image) held closed new = (c : Image) × (new ≡ Some c) × LacksGate image held closed c
