-- What the creation of a pool comes to.
use Rattle.std.specs.Prelude.{◌≡◌, ⊤, ℕ, Option, Some, None}
use Rattle.disk_model.specs.Images.{Image}
use Rattle.disk_model.specs.DiskLaws.{Torn}
use Rattle.uber_ring.specs.Ring.{gate_sector}
use Rattle.pool_model.specs.Run.{first_standing}
use Rattle.table_state.specs.Flat.{HasNoPool}
use Rattle.table_state.specs.Holding.{Holds}
use Rattle.table_state.specs.Over.{StandsOver}
use Rattle.table_state.specs.Pools.{Held}

-- no seal counts in told contents
abbrev pub HasNoSeal : Option Image → Type 0
HasNoSeal None = ⊤
HasNoSeal (Some image) = HasNoPool image

-- a pool was created: the pool in memory is over the new one
abbrev pub Creates : (old new : Option Image) → (sectors : ℕ) → Held → Type 0
Creates None new sectors held = ⊤
Creates (Some image) new sectors held = (c : Image) × (new ≡ Some c) × StandsOver c held (first_standing sectors)

-- where the write of the gate failed, the image is one that holds the new pool, but for the gate of slot 1
pub record LacksFirstGate (tag sectors : ℕ) (c : Image) : Type 0 where
  pub meant : Image
  pub new : Holds tag meant (first_standing sectors)
  pub torn : Torn (gate_sector 1) meant c

abbrev pub CreatesAllButGate : (tag sectors : ℕ) → (old new : Option Image) → Type 0
CreatesAllButGate tag sectors None new = ⊤
CreatesAllButGate tag sectors (Some image) new = (c : Image) × (new ≡ Some c) × LacksFirstGate tag sectors c
