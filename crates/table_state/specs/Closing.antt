-- What a closed group makes of a pool in memory, when it can be synced, and what stands after it.
use Rattle.std.specs.Prelude.{◌≡◌, ◌⊎◌, ⊤, ℕ, ◌<◌, ◌≤◌, ◌+◌, Bool, true, false, not, ◌==◌, List, length, map, sum_by, count_by, slice_index_or, Option, Some, None}
use Rattle.std.specs.List.{AllByRecursion, list_any}
use Rattle.ddt_entry.specs.declared.key.Key.{Key}
use Rattle.ddt_entry.specs.declared.entry.Home.{Home}
use Rattle.ddt_entry.specs.declared.entry.Change.{Change}
use Rattle.disk_model.specs.Images.{Image, sector_at}
use Rattle.grant_book.specs.Sectors.{marked}
use Rattle.page_tree.specs.ChainWrites.{pages_for}
use Rattle.pool_model.specs.declared.commands.Mode.{Mode}
use Rattle.pool_model.specs.declared.closed.Closed.{Closed}
use Rattle.pool_model.specs.declared.closed.SlotChange.{SlotChange}
use Rattle.pool_model.specs.Pool.{Pool, IsWellFormed}
use Rattle.pool_model.specs.Mirrors.{Stored, stored_of}
use Rattle.pool_model.specs.Table.{TableState, Matches, found, sync_table, waiting_in}
use Rattle.pool_model.specs.Logs.{logs_after}
use Rattle.pool_model.specs.Replaying.{LoggedTable, sync_logged}
use Rattle.pool_model.specs.Group.{Standing}
use Rattle.table_state.specs.Flat.{IsChangeWithin}
use Rattle.table_state.specs.Pools.{Held, IsHeld, slots_after, pool_after, with_blocks}
use Rattle.table_state.specs.Sealed.{ChangesSlotWithin, records_in}
use Rattle.table_state.specs.Tables.{HasLength}

-- what a group leaves to its sync, without the room of its lists
pub record PlainClosed : Type 0 where
  pub log : List Change
  pub slots : List SlotChange
  pub contents : List Stored
  pub modes : List Mode
  pub quota : Option ℕ

abbrev pub closed_of : Closed → PlainClosed
closed_of closed = record {
  log = closed.changes.items;
  slots = closed.slots.items;
  contents = map stored_of closed.contents.items;
  modes = closed.modes;
  quota = closed.quota;
}

-- the places of blocks
abbrev pub block_places : List Stored → List ℕ
block_places contents = map (λ stored. stored.place) contents

-- the table with its logs, before the group and after
abbrev pub kept_of : Held → LoggedTable
kept_of held = record { table = held.table; logs = held.logs }

abbrev pub kept_after : Held → PlainClosed → LoggedTable
kept_after held closed = sync_logged closed.log (kept_of held)

-- the table, the pool, and what stands after the group, where its image has these pages
abbrev pub table_after : Held → PlainClosed → TableState
table_after held closed = sync_table closed.log held.table

abbrev pub pool_with : Image → Held → PlainClosed → Pool
pool_with image held closed =
    pool_after image closed.contents (slots_after closed.slots held.slots) (table_after held closed) closed.modes closed.quota
    (held.group + 1)

abbrev pub standing_with : Image → Held → PlainClosed → (pages : List ℕ) → Standing
standing_with image held closed pages = record {
  pool = pool_with image held closed;
  table = table_after held closed;
  logs = logs_after closed.log held.table held.logs;
  blocks = λ place. sector_at (with_blocks closed.contents image) place;
  sectors = held.sectors;
  pages = pages;
}

-- the records of the image after the group, chain by chain, and how many pages they take
abbrev pub records_after : Held → PlainClosed → List (List (List ℕ))
records_after held closed = records_in (slots_after closed.slots held.slots) (kept_after held closed)

abbrev pub pages_of : List (List (List ℕ)) → ℕ
pages_of lists = sum_by (λ records. pages_for (length records)) lists

-- what a group leaves is in its ranges, for the next group of this pool; no home counts more pointers than there are slots
pub record IsInRange (held : Held) (closed : PlainClosed) : Type 0 where
  pub changes : AllByRecursion (IsChangeWithin held.sectors (held.group + 1)) closed.log
  pub lengths : AllByRecursion HasLength closed.log
  pub slots : AllByRecursion (ChangesSlotWithin held.sectors (held.group + 1)) closed.slots
  pub counts : (key : Key) (home : Home) → found (table_after held closed) key ≡ Some home
      → home.count ≤ length (slots_after closed.slots held.slots)
  pub behind : AllByRecursion (λ stored. 32 ≤ stored.place) closed.contents
  pub on_disk : AllByRecursion (λ stored. stored.place < held.sectors) closed.contents
  pub blocks : AllByRecursion (λ stored. length stored.bytes ≤ 4096) closed.contents

-- a block stands there already, or is one of the group's
abbrev pub IsNamed : (used : List Bool) → (contents : List Stored) → (place : ℕ) → Type 0
IsNamed used contents place = (slice_index_or used place false ≡ true) ⊎ (list_any (λ stored. stored.place == place) contents ≡ true)

-- over told contents: the pool in memory stands for a pool, the group's blocks have places that were free, each place that is named then
-- has a block, what the group makes of the pool is well-formed and its table matches it, and there is room for the pages
pub record CanSync (image : Image) (held : Held) (closed : PlainClosed) : Type 0 where
  pub pool : Pool
  pub table : TableState
  pub is_held : IsHeld image held pool table
  pub fresh : AllByRecursion (λ stored. slice_index_or held.used stored.place true ≡ false) closed.contents
  pub pointers_named : AllByRecursion (λ slot. IsNamed held.used closed.contents slot.pointer.place) (slots_after closed.slots held.slots)
  pub waiting_named : AllByRecursion (λ entry. IsNamed held.used closed.contents entry.home.place) (waiting_in (table_after held closed))
  pub well_formed : IsWellFormed held.sectors (pool_with image held closed)
  pub matches : Matches (pool_with image held closed) (table_after held closed)
  pub room : pages_of (records_after held closed) ≤ count_by not (marked held.used (block_places closed.contents))

abbrev pub CanSyncOver : Option Image → Held → PlainClosed → Type 0
CanSyncOver None held closed = ⊤
CanSyncOver (Some image) held closed = CanSync image held closed
