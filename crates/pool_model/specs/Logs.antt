-- The two logs as they are kept: every change in the order in which it was appended, also where a key stands in a log twice, until the log
-- is emptied. Which of its changes count, and what a sync of the table makes of the two.
use Rattle.std.specs.Prelude.{Bool, true, false, ◌&&◌, ◌==◌, List, [], ◌++◌, length, filter, fold, Option, Some, None, if◌then◌else◌}
use Rattle.ddt_entry.specs.Changes.{key_in}
use Rattle.ddt_entry.specs.declared.key.Key.{Key}
use Rattle.ddt_entry.specs.declared.entry.Change.{Change}
use Rattle.pool_model.specs.Table.{TableState, set_change, change_at, is_past, logged, flushed, flush_limit, aged, is_due}

-- the last change of each key, sorted by key
abbrev pub last_changes : List Change → List Change
last_changes log = fold (λ sorted change. set_change change sorted) [] log

abbrev pub is_missing : Option Change → Bool
is_missing None = true
is_missing (Some change) = false

-- whether a key of a flushing log is still to be flushed: it is above the checkpoint, and the active log doesn't name it
abbrev pub is_left : Option Key → (active : List Change) → Key → Bool
is_left checkpoint active key = is_past checkpoint key && is_missing (change_at key active)

-- what is left of a flushing log: of the last change of each key those that are still to be flushed
abbrev pub left_in : Option Key → (active flushing : List Change) → List Change
left_in checkpoint active flushing = filter (λ change. is_left checkpoint active (key_in change)) (last_changes flushing)

-- the changes that were appended to each of the two logs since it was last empty
pub record Logs : Type 0 where
  pub active : List Change
  pub flushing : List Change

abbrev pub empty_logs : Logs
empty_logs = record { active = []; flushing = [] }

-- a group's changes go behind those of the active log
abbrev pub appended : List Change → Logs → Logs
appended changes logs = record { active = logs.active ++ changes; flushing = logs.flushing }

-- the flushing log is emptied where nothing is left to flush
abbrev pub emptied_log : (flush : List Change) → Logs → Logs
emptied_log flush logs = if length flush == 0 then record { active = logs.active; flushing = [] } else logs

-- the active log becomes the flushing one where it is due, and is empty then
abbrev pub exchanged : (due : Bool) → Logs → Logs
exchanged due logs = if due then record { active = []; flushing = logs.active } else logs

-- the logs after a sync of a table whose changes were flushed so far
abbrev pub logs_settled : TableState → Logs → Logs
logs_settled table logs = exchanged (is_due (aged table)) (emptied_log table.flush logs)

-- what a sync of a table with these changes makes of its logs
abbrev pub logs_after : List Change → TableState → Logs → Logs
logs_after changes table logs = logs_settled (flushed (flush_limit table) (logged changes table)) (appended changes logs)
