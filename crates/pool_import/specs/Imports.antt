-- What makes a pool in memory of an image.
use Rattle.std.specs.Prelude.{◌≡◌, ◌<◌, ◌^◌, ℕ, Bool, true, false, List, length, replicate}
use Rattle.disk_model.specs.Images.{Image}
use Rattle.uber_ring.specs.declared.seal.Seal.{Seal}
use Rattle.pool_model.specs.Space.{used_sectors}
use Rattle.pool_model.specs.Table.{counted_homes}
use Rattle.pool_stats.specs.Totals.{totals_in}
use Rattle.table_state.specs.SealForms.{is_formed, modes_in, quota_in}
use Rattle.table_state.specs.Flat.{Flat, IsRead, HoldTogether, table_in, pool_in, logs_in}
use Rattle.table_state.specs.Pools.{Held}
use Rattle.pool_import.specs.Whole.{IsWhole}

-- an image has these parts under this seal, and they keep all rules
pub record IsStanding (tag : ℕ) (image : Image) (seal : Seal) (flat : Flat) : Type 0 where
  pub formed : is_formed tag (length image) seal ≡ true
  pub read : IsRead image seal flat
  pub together : HoldTogether seal flat
  pub whole : IsWhole image seal flat

-- what is kept in memory of a seal and its parts
abbrev pub held_of : (tag : ℕ) → Seal → Flat → (used : List Bool) → Held
held_of tag seal flat used = record {
  slots = flat.slots;
  table = table_in seal flat;
  logs = logs_in flat;
  keys = seal.homes;
  totals = totals_in (counted_homes (table_in seal flat));
  pages = flat.named;
  used = used;
  pending = replicate seal.sectors false;
  modes = modes_in seal;
  quota = quota_in seal;
  tag = tag;
  group = seal.group;
  sectors = seal.sectors;
}

-- a pool of parts that keep all rules, whatever stands in the blocks
pub record IsMade (tag : ℕ) (seal : Seal) (flat : Flat) (held : Held) : Type 0 where
  pub used : List Bool
  pub together : HoldTogether seal flat
  pub whole : (image : Image) → IsWhole image seal flat
  pub few : seal.homes < 2 ^ 62
  pub used_are : (image : Image) → used ≡ used_sectors seal.sectors flat.named (pool_in image seal flat) (table_in seal flat)
  pub held_is : held ≡ held_of tag seal flat used

-- a pool of the parts that an image has under this seal
pub record IsMadeOf (tag : ℕ) (image : Image) (seal : Seal) (held : Held) : Type 0 where
  pub flat : Flat
  pub formed : is_formed tag (length image) seal ≡ true
  pub read : IsRead image seal flat
  pub made : IsMade tag seal flat held
