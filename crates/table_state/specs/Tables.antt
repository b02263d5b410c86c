-- What holds of a table that an image keeps: each number is in its range; and how its lists lie in pages.
use Rattle.std.specs.Prelude.{ℕ, ◌+◌, ◌==◌, nat_lt, List, length, filter}
use Rattle.std.specs.List.{AllByRecursion}
use Rattle.ddt_entry.specs.declared.entry.Entry.{Entry}
use Rattle.page_tree.specs.ChainWrites.{pages_for}
use Rattle.ddt_entry.specs.Changes.{key_in}
use Rattle.ddt_entry.specs.Spelling.{IsKeyLength}
use Rattle.ddt_entry.specs.declared.entry.Change.{Change}
use Rattle.pool_model.specs.Table.{TableState}
use Rattle.pool_model.specs.Logs.{Logs}
use Rattle.pool_model.specs.Replaying.{LoggedTable}
use Rattle.table_state.specs.Flat.{IsWithin, IsChangeWithin}

-- each number of its entries is in its range
pub record IsTableWithin (sectors group : ℕ) (table : TableState) : Type 0 where
  pub zap : AllByRecursion (IsWithin sectors group) table.zap
  pub flush : AllByRecursion (IsChangeWithin sectors group) table.flush
  pub active : AllByRecursion (IsChangeWithin sectors group) table.active

-- each change of the logs is in its range
pub record AreLogsWithin (sectors group : ℕ) (logs : Logs) : Type 0 where
  pub active : AllByRecursion (IsChangeWithin sectors group) logs.active
  pub flushing : AllByRecursion (IsChangeWithin sectors group) logs.flushing

abbrev pub HasLength : Change → Type 0
HasLength change = IsKeyLength (key_in change).len

-- and its key has a length that a key can have
pub record HaveKeyLengths (logs : Logs) : Type 0 where
  pub active : AllByRecursion HasLength logs.active
  pub flushing : AllByRecursion HasLength logs.flushing

-- the two classes of the stored table: homes that are counted once, and more than once
abbrev pub unique_in : List Entry → List Entry
unique_in zap = filter (λ entry. entry.home.count == 1) zap

abbrev pub duplicate_in : List Entry → List Entry
duplicate_in zap = filter (λ entry. nat_lt 1 entry.home.count) zap

-- how many pages the two classes and the two logs take
abbrev pub table_pages : LoggedTable → ℕ
table_pages kept = pages_for (length (unique_in kept.table.zap)) + pages_for (length (duplicate_in kept.table.zap))
    + pages_for (length kept.logs.active) + pages_for (length kept.logs.flushing)
