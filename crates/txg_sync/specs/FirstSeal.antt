-- What a disk may tell while a new pool's first seal is written: no pool, or the new one; and nothing has changed but one slot of the ring.
use Rattle.std.specs.Prelude.{◌≡◌, ◌≢◌, ◌⊎◌, ℕ, length}
use Rattle.disk_model.specs.Images.{Image, sector_at}
use Rattle.uber_ring.specs.Ring.{gate_sector, body_sector}
use Rattle.pool_model.specs.Run.{first_standing}
use Rattle.table_state.specs.Flat.{HasNoPool}
use Rattle.table_state.specs.Holding.{Holds}

-- every sector but the two of a slot is as before
pub record SameOutside (slot : ℕ) (image c : Image) : Type 0 where
  pub count : length c ≡ length image
  pub others : (at : ℕ) → at ≢ gate_sector slot → at ≢ body_sector slot → sector_at c at ≡ sector_at image at

-- while the first seal is written no seal counts yet, or the image holds the new pool
abbrev pub NoneOrNew : (tag sectors : ℕ) → Image → Type 0
NoneOrNew tag sectors c = HasNoPool c ⊎ Holds tag c (first_standing sectors)
