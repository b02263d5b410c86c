-- A pool in memory, and what it stands for over the newest sealed image.
use Rattle.std.specs.Prelude.{◌≡◌, ◌<◌, ◌^◌, ℕ, Bool, false, List, [], length, map, fold, replicate, slice_set, ◌++◌, Option, None, ◌-◌}
use Rattle.disk_model.specs.Images.{Image}
use Rattle.pool_model.specs.declared.commands.Mode.{Mode}
use Rattle.pool_model.specs.declared.closed.SlotChange.{SlotChange}
use Rattle.grant_book.specs.Sectors.{ring_used}
use Rattle.pool_model.specs.declared.commands.Mode.TheVariants.{On}
use Rattle.pool_model.specs.Pool.{Pool}
use Rattle.pool_model.specs.Mirrors.{Stored}
use Rattle.pool_model.specs.Space.{used_sectors}
use Rattle.pool_model.specs.Table.{TableState, empty_table, counted_homes}
use Rattle.pool_model.specs.Logs.{Logs, empty_logs}
use Rattle.pool_stats.specs.Totals.{totals_in}
use Rattle.pool_stats.specs.declared.running.RunningTotals.{RunningTotals}
use Rattle.slot_table.specs.Slots.{set_slot}
use Rattle.table_state.specs.Flat.{StandsFor, pointer_of, logs_in}
use Rattle.slot_table.specs.declared.slot.SlotRecord.{SlotRecord}

-- what a pool in memory keeps: the slots, the table and its logs, how many homes it counts, with the sums over them, the sectors of the image's
-- pages, which sectors are used, and which of them the next settling of the book lets go, the settings, and the seal's numbers
pub record Held : Type 0 where
  pub slots : List SlotRecord
  pub table : TableState
  pub logs : Logs
  pub keys : ℕ
  pub totals : RunningTotals
  pub pages : List ℕ
  pub used : List Bool
  pub pending : List Bool
  pub modes : List Mode
  pub quota : Option ℕ
  pub tag : ℕ
  pub group : ℕ
  pub sectors : ℕ

-- over this image it stands for this pool with this table
pub record IsHeld (image : Image) (held : Held) (pool : Pool) (table : TableState) : Type 0 where
  pub stands : StandsFor held.tag image pool table
  pub slots_are : held.slots ≡ stands.flat.slots
  pub table_is : held.table ≡ table
  pub logs_are : held.logs ≡ logs_in stands.flat
  pub pages_are : held.pages ≡ stands.flat.named
  pub keys_are : held.keys ≡ length (counted_homes table)
  pub keys_few : held.keys < 2 ^ 62
  pub totals_are : held.totals ≡ totals_in (counted_homes table)
  pub used_are : held.used ≡ used_sectors held.sectors held.pages pool table
  pub settled : held.pending ≡ replicate held.sectors false
  pub modes_are : held.modes ≡ pool.modes
  pub quota_is : held.quota ≡ pool.quota
  pub group_is : held.group ≡ pool.group
  pub sectors_are : held.sectors ≡ stands.seal.sectors

-- what is kept in memory of a new pool
abbrev pub new_held : (tag sectors : ℕ) → Held
new_held tag sectors = record {
  slots = [];
  table = empty_table;
  logs = empty_logs;
  keys = 0;
  totals = totals_in [];
  pages = [];
  used = ring_used sectors;
  pending = replicate sectors false;
  modes = replicate 16 On;
  quota = None;
  tag = tag;
  group = 1;
  sectors = sectors;
}

-- ---- What a sync makes of it

abbrev pub slots_after : List SlotChange → List SlotRecord → List SlotRecord
slots_after changes slots = fold set_slot slots changes

-- a content as a sector has it: with zeros behind it
abbrev pub block_sector : List ℕ → List ℕ
block_sector bytes = bytes ++ replicate (4096 - length bytes) 0

-- an image in which blocks stand at their places
abbrev pub put_block : Image → Stored → Image
put_block image stored = slice_set image stored.place (block_sector stored.bytes)

abbrev pub with_blocks : List Stored → Image → Image
with_blocks contents image = fold put_block image contents

-- the pool after a group: the changed slots, with the blocks that stand at their places then, and the settings
abbrev pub pool_after : Image → (contents : List Stored) → (slots : List SlotRecord) → TableState → List Mode → Option ℕ → (group : ℕ)
    → Pool
pool_after image contents slots table modes quota group = record {
  pointers = map (pointer_of (with_blocks contents image) table) slots;
  modes = modes;
  quota = quota;
  group = group;
}
