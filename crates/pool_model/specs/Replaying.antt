-- What the two logs are replayed to: the sorted lists of the table. A table with its logs, and both after a sync.
use Rattle.std.specs.Prelude.{◌≡◌, List, [], ◌∷◌, Option, Some}
use Rattle.ddt_entry.specs.Changes.{key_in}
use Rattle.ddt_entry.specs.declared.key.Key.{Key}
use Rattle.ddt_entry.specs.declared.entry.Change.{Change}
use Rattle.pool_model.specs.Table.{TableState, sync_table}
use Rattle.pool_model.specs.Logs.{Logs, last_changes, left_in, logs_after}

-- the two lists of a table, sorted by key
pub record SortedLogs : Type 0 where
  pub active : List Change
  pub flush : List Change

-- what the logs are replayed to, where the flushing log was flushed up to a checkpoint
abbrev pub replayed : Logs → (checkpoint : Option Key) → SortedLogs
replayed logs checkpoint = record {
  active = last_changes logs.active;
  flush = left_in checkpoint (last_changes logs.active) logs.flushing;
}

-- how far a flushing log has been flushed once these changes left it
abbrev pub reached : Option Key → (left : List Change) → Option Key
reached checkpoint [] = checkpoint
reached checkpoint (change ∷ left) = reached (Some (key_in change)) left

-- a table with its logs, and both after a sync with these changes
pub record LoggedTable : Type 0 where
  pub table : TableState
  pub logs : Logs

abbrev pub sync_logged : List Change → LoggedTable → LoggedTable
sync_logged changes kept = record { table = sync_table changes kept.table; logs = logs_after changes kept.table kept.logs }

-- the logs are replayed to the table's lists
pub record Replays (table : TableState) (logs : Logs) : Type 0 where
  pub active : table.active ≡ (replayed logs table.checkpoint).active
  pub flush : table.flush ≡ (replayed logs table.checkpoint).flush
