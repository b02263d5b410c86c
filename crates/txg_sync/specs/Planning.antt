-- What a sync is going to write, before anything is written: the pool after the group, its chains with their places, and the seal.
use Rattle.std.specs.Prelude.{◌≡◌, ◌<◌, ◌^◌, ℕ, ◌+◌, false, replicate, List, [], ◌∷◌, ◌++◌, length}
use Rattle.std.specs.List.{AllByRecursion}
use Rattle.ddt_entry.specs.Spelling.{Fits}
use Rattle.ddt_entry.specs.declared.entry.Change.TheVariants.{Entry as AnEntry}
use Rattle.page_tree.specs.Pointers.{null_pointer}
use Rattle.page_tree.specs.declared.pointer.PagePtr.{PagePtr}
use Rattle.pool_model.specs.Space.{used_sectors}
use Rattle.pool_model.specs.Table.{counted_homes, sync_table}
use Rattle.pool_stats.specs.Totals.{totals_in}
use Rattle.uber_ring.specs.declared.seal.Seal.{Seal}
use Rattle.slot_table.specs.declared.slot.SlotRecord.{SlotRecord}
use Rattle.txg_sync.specs.Placing.{ArePlaced, AreUsed}
use Rattle.table_state.specs.Spelling.{FitsSlot}
use Rattle.table_state.specs.Closing.{PlainClosed, kept_of}
use Rattle.table_state.specs.Pools.{Held, slots_after, pool_after}
use Rattle.table_state.specs.Sealed.{ChainPart, places_in, records_in, seal_of}
use Rattle.pool_model.specs.Logs.{logs_after}
use Rattle.pool_model.specs.Replaying.{LoggedTable}

-- the pool in memory after the group, whose image has these pages
pub record IsNext (held : Held) (closed : PlainClosed) (pages : List ℕ) (next : Held) : Type 0 where
  pub slots_are : next.slots ≡ slots_after closed.slots held.slots
  pub table_is : next.table ≡ sync_table closed.log held.table
  pub logs_are : next.logs ≡ logs_after closed.log held.table held.logs
  pub keys_are : next.keys ≡ length (counted_homes next.table)
  pub totals_are : next.totals ≡ totals_in (counted_homes next.table)
  pub pages_are : next.pages ≡ pages
  pub used_are : next.used
      ≡ used_sectors held.sectors pages (pool_after [] [] next.slots next.table closed.modes closed.quota (held.group + 1)) next.table
  pub pending_are : next.pending ≡ replicate held.sectors false
  pub modes_are : next.modes ≡ closed.modes
  pub quota_is : next.quota ≡ closed.quota
  pub tag_is : next.tag ≡ held.tag
  pub group_is : next.group ≡ held.group + 1
  pub sectors_are : next.sectors ≡ held.sectors

-- a pool in memory that is made of these
pub record IsMadeOf (held : Held) (closed : PlainClosed) (slots : List SlotRecord) (kept : LoggedTable) (pages : List ℕ)
    (next : Held) : Type 0 where
  pub slots_are : next.slots ≡ slots
  pub kept_is : kept_of next ≡ kept
  pub keys_are : next.keys ≡ length (counted_homes kept.table)
  pub keys_few : next.keys < 2 ^ 62
  pub totals_are : next.totals ≡ totals_in (counted_homes kept.table)
  pub pages_are : next.pages ≡ pages
  pub used_are : AreUsed held.sectors pages slots kept.table next.used
  pub pending_are : next.pending ≡ replicate held.sectors false
  pub modes_are : next.modes ≡ closed.modes
  pub quota_is : next.quota ≡ closed.quota
  pub tag_is : next.tag ≡ held.tag
  pub group_is : next.group ≡ held.group + 1
  pub sectors_are : next.sectors ≡ held.sectors

-- a plan: the pool after the group, whose slots and stored homes fit their records and whose count of keys is small, its chains, and the seal,
-- with null pointers in place of the roots, which are known once the pages are written
pub record IsPlan (held : Held) (closed : PlainClosed) (next : Held) (parts : List ChainPart) (seal : Seal) : Type 0 where
  pub is_next : IsNext held closed (places_in parts) next
  pub keys_few : next.keys < 2 ^ 62
  pub slots_fit : AllByRecursion FitsSlot next.slots
  pub zap_fits : AllByRecursion (λ entry. Fits (AnEntry entry)) next.table.zap
  pub placed : ArePlaced held.used closed.contents (records_in next.slots (kept_of next)) parts
  pub seal_is : (roots : List PagePtr)
      → record seal { pointers = roots ++ null_pointer ∷ [] } ≡ seal_of held.tag held.sectors (held.group + 1) closed.modes closed.quota
      (kept_of next) roots (length (places_in parts))
  pub null : seal.pointers ≡ replicate 6 null_pointer
