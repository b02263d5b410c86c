-- When an image holds what stands: a pool with its table, its sectors and pages, and the blocks of the homes that wait.
use Rattle.std.specs.Prelude.{◌≡◌, ℕ, take, Some}
use Rattle.disk_model.specs.Images.{Image, sector_at}
use Rattle.ddt_entry.specs.declared.key.Key.{Key}
use Rattle.ddt_entry.specs.declared.entry.Home.{Home}
use Rattle.pool_model.specs.Table.{found}
use Rattle.pool_model.specs.Group.{Standing}
use Rattle.table_state.specs.Flat.{StandsFor, logs_in}

-- each home that waits has the bytes in the image that stand at its place
abbrev pub WaitingStand : Image → Standing → Type 0
WaitingStand image s =
    (key : Key) (home : Home) → found s.table key ≡ Some home → home.count ≡ 0
    → take key.len (s.blocks home.place) ≡ take key.len (sector_at image home.place)

-- the image stands for the pool with its table, it keeps these logs, its seal has the pool's sectors, these are the sectors of its pages, and
-- the homes that wait have their blocks
pub record Holds (tag : ℕ) (image : Image) (s : Standing) : Type 0 where
  pub state : StandsFor tag image s.pool s.table
  pub sectors : state.seal.sectors ≡ s.sectors
  pub logs : logs_in state.flat ≡ s.logs
  pub pages : state.flat.named ≡ s.pages
  pub waiting : WaitingStand image s
