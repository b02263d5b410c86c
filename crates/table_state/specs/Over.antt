-- When a pool in memory, over an image, is what stands.
use Rattle.std.specs.Prelude.{◌≡◌}
use Rattle.disk_model.specs.Images.{Image}
use Rattle.pool_model.specs.Group.{Standing}
use Rattle.table_state.specs.Pools.{Held, IsHeld}
use Rattle.table_state.specs.Holding.{WaitingStand}

-- over this image the pool in memory is what stands
pub record StandsOver (image : Image) (held : Held) (s : Standing) : Type 0 where
  pub is_held : IsHeld image held s.pool s.table
  pub logs : held.logs ≡ s.logs
  pub sectors : held.sectors ≡ s.sectors
  pub pages : held.pages ≡ s.pages
  pub waiting : WaitingStand image s
