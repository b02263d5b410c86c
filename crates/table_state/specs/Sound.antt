-- What holds of a pool in memory whatever the disk tells: its numbers are in their ranges.
use Rattle.std.specs.Prelude.{◌≡◌, ◌<◌, ◌≤◌, ◌^◌, ℕ, true, false, replicate, length, slice_index_or, Some}
use Rattle.std.specs.List.{AllByRecursion}
use Rattle.ddt_entry.specs.Spelling.{IsKeyLength}
use Rattle.ddt_entry.specs.declared.key.Key.{Key}
use Rattle.ddt_entry.specs.declared.entry.Home.{Home}
use Rattle.pool_model.specs.Table.{TableState, IsTable, found, counted_homes}
use Rattle.pool_stats.specs.Totals.{totals_in}
use Rattle.slot_table.specs.Slots.{AreRisingSlots}
use Rattle.table_state.specs.Pools.{Held}
use Rattle.table_state.specs.SealForms.{fewest_sectors, most_sectors, last_group}
use Rattle.table_state.specs.SlotRecords.{is_slot}
use Rattle.table_state.specs.Tables.{IsTableWithin, AreLogsWithin, HasLength, HaveKeyLengths}
use Rattle.pool_model.specs.Replaying.{Replays}

-- each key of a table has a length that a key can have
pub record HasKeyLengths (table : TableState) : Type 0 where
  pub zap : AllByRecursion (λ entry. IsKeyLength entry.key.len) table.zap
  pub flush : AllByRecursion HasLength table.flush
  pub active : AllByRecursion HasLength table.active

pub record IsSound (held : Held) : Type 0 where
  pub enough : fewest_sectors ≤ held.sectors
  pub few : held.sectors ≤ most_sectors
  pub first : 1 ≤ held.group
  pub last : held.group ≤ last_group
  pub used_len : length held.used ≡ held.sectors
  pub settled : held.pending ≡ replicate held.sectors false
  pub ring : (sector : ℕ) → sector < 32 → slice_index_or held.used sector true ≡ true
  pub slots_within : AllByRecursion (λ slot. is_slot held.sectors held.group slot ≡ true) held.slots
  pub slots_rising : AreRisingSlots held.slots
  pub within : IsTableWithin held.sectors held.group held.table
  pub lengths : HasKeyLengths held.table
  pub logs_within : AreLogsWithin held.sectors held.group held.logs
  pub log_lengths : HaveKeyLengths held.logs
  pub replays : Replays held.table held.logs
  pub sorted : IsTable held.table
  pub keys_are : held.keys ≡ length (counted_homes held.table)
  pub keys_few : held.keys < 2 ^ 62
  pub totals_are : held.totals ≡ totals_in (counted_homes held.table)
  pub counts : (key : Key) (home : Home) → found held.table key ≡ Some home → home.count ≤ length held.slots
