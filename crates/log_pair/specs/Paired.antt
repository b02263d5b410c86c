-- What a contract sees of the two logs, and what each call makes of them.
use Rattle.std.specs.Prelude.{ℕ, ◌==◌, List, [], ◌∷◌, Option, Some, None, if◌then◌else◌}
use Rattle.ddt_entry.specs.Changes.{key_in}
use Rattle.ddt_entry.specs.declared.key.Key.{Key}
use Rattle.ddt_entry.specs.declared.entry.Change.{Change}
use Rattle.pool_model.specs.Table.{TableState, empty_table, set_change, drop_change}
use Rattle.pool_model.specs.Logs.{Logs, appended}
use Rattle.pool_model.specs.Replaying.{replayed, Replays}
use Rattle.log_object.specs.Logged.{Logged}

-- the two lists, each sorted by key, the two logs as they were appended, and how far the flushing log has been flushed
pub record Paired : Type 0 where
  pub active : List Change
  pub flush : List Change
  pub logs : Logs
  pub checkpoint : Option Key

-- two sorted lists with the logs that they belong to
abbrev pub pair_of : (active flush : List Change) → (active_log flushing_log : Logged) → Paired
pair_of active flush active_log flushing_log = record {
  active = active;
  flush = flush;
  logs = record { active = active_log.changes; flushing = flushing_log.changes };
  checkpoint = flushing_log.checkpoint;
}

-- a table with these lists
abbrev pub as_table : Paired → TableState
as_table pair = record empty_table { flush = pair.flush; active = pair.active; checkpoint = pair.checkpoint }

-- the lists are what the logs are replayed to
abbrev pub IsReplayed : Paired → Type 0
IsReplayed pair = Replays (as_table pair) pair.logs

-- two logs with the lists that they are replayed to
abbrev pub of_logs : (active_log flushing_log : Logged) → Paired
of_logs active_log flushing_log =
    let logs : Logs = record { active = active_log.changes; flushing = flushing_log.changes } in
    pair_of (replayed logs flushing_log.checkpoint).active (replayed logs flushing_log.checkpoint).flush active_log flushing_log

-- the part of a table that its logs keep
abbrev pub of_table : TableState → Logs → Paired
of_table table logs = record { active = table.active; flush = table.flush; logs = logs; checkpoint = table.checkpoint }

-- a change goes to the active log, and its key leaves the flushing list
abbrev pub with_change : Change → Paired → Paired
with_change change pair = record {
  active = set_change change pair.active;
  flush = drop_change (key_in change) pair.flush;
  logs = appended (change ∷ []) pair.logs;
  checkpoint = pair.checkpoint;
}

abbrev pub flush_from : Paired → (flush : List Change) → Paired
flush_from pair [] = pair
flush_from pair (change ∷ rest) = record {
  active = pair.active;
  flush = rest;
  logs = pair.logs;
  checkpoint = Some (key_in change);
}

-- the first change leaves the flushing list, and the flushing log has been flushed to its key
abbrev pub popped : Paired → Paired
popped pair = flush_from pair pair.flush

-- the flushing log is emptied
abbrev pub emptied_pair : Paired → Paired
emptied_pair pair = record {
  active = pair.active;
  flush = pair.flush;
  logs = record { active = pair.logs.active; flushing = [] };
  checkpoint = None;
}

-- the active log becomes the flushing one, and is empty
abbrev pub swapped_pair : Paired → Paired
swapped_pair pair = record {
  active = [];
  flush = pair.active;
  logs = record { active = []; flushing = pair.logs.active };
  checkpoint = None;
}

-- the list at a number: 0 for the active one, and 1 for the flushing one
abbrev pub list_at : ℕ → Paired → List Change
list_at at pair = if at == 0 then pair.active else pair.flush

-- and the log
abbrev pub log_at : ℕ → Logs → List Change
log_at at logs = if at == 0 then logs.active else logs.flushing
