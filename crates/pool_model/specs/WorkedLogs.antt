-- Worked examples of the logs as they are kept: what a sync makes of them beside its table.
use Rattle.std.specs.Prelude.{◌≡◌, List, [], ◌∷◌, fold, replicate, Some, None}
use Rattle.ddt_entry.specs.declared.entry.Change.{Change}
use Rattle.pool_model.specs.Table.{empty_table}
use Rattle.pool_model.specs.Logs.{empty_logs}
use Rattle.pool_model.specs.Replaying.{LoggedTable, replayed, sync_logged}
use Rattle.pool_model.specs.WorkedTables.{key, to, gone, entries_from, changes_from}

abbrev pub at_first : LoggedTable
at_first = record { table = empty_table; logs = empty_logs }

-- what groups with these changes make of them
abbrev pub all_synced : List (List Change) → LoggedTable → LoggedTable
all_synced groups logged =
    fold (λ before changes. sync_logged changes before) logged groups

-- a key that is changed twice stands twice in its log, and once in the table's list
pub record ChangedTwice : Type 0 where
  pub kept : (all_synced ((to 2 1 ∷ []) ∷ (to 1 1 ∷ to 2 2 ∷ []) ∷ []) at_first).logs
      ≡ record { active = to 2 1 ∷ to 1 1 ∷ to 2 2 ∷ []; flushing = [] }
  pub listed : (all_synced ((to 2 1 ∷ []) ∷ (to 1 1 ∷ to 2 2 ∷ []) ∷ []) at_first).table.active ≡ to 1 1 ∷ to 2 2 ∷ []
  pub replays : (replayed (record { active = to 2 1 ∷ to 1 1 ∷ to 2 2 ∷ []; flushing = [] }) None).active ≡ to 1 1 ∷ to 2 2 ∷ []
  pub last_counts : (replayed (record { active = to 1 1 ∷ gone 1 ∷ []; flushing = [] }) None).active ≡ gone 1 ∷ []

-- a log that is flushed in parts is kept whole until nothing is left of it; the checkpoint tells what has left
pub record KeptWhole : Type 0 where
  pub first : all_synced ([] ∷ []) (record {
    table = record empty_table { flush = changes_from 0 80 };
    logs = record { active = []; flushing = changes_from 0 80 };
  }) ≡ record {
    table = record empty_table { zap = entries_from 0 74; flush = changes_from 74 6; age = 1; checkpoint = Some (key 73) };
    logs = record { active = []; flushing = changes_from 0 80 };
  }
  pub replays : replayed (record { active = []; flushing = changes_from 0 80 }) (Some (key 73))
      ≡ record { active = []; flush = changes_from 74 6 }
  pub last : (all_synced ([] ∷ []) (record {
    table = record empty_table { zap = entries_from 0 74; flush = changes_from 74 6; age = 1; checkpoint = Some (key 73) };
    logs = record { active = []; flushing = changes_from 0 80 };
  })).logs ≡ empty_logs

-- a key that is changed again while the other log is flushed stands in both logs, and is flushed with the later one
pub record ChangedAgain : Type 0 where
  pub kept : (all_synced ((to 1 2 ∷ []) ∷ []) (record {
    table = record empty_table { flush = changes_from 0 80 };
    logs = record { active = []; flushing = changes_from 0 80 };
  })).logs ≡ record { active = to 1 2 ∷ []; flushing = changes_from 0 80 }
  pub replays : replayed (record { active = to 1 2 ∷ []; flushing = to 0 1 ∷ to 1 1 ∷ to 2 1 ∷ [] }) None
      ≡ record { active = to 1 2 ∷ []; flush = to 0 1 ∷ to 2 1 ∷ [] }
  pub alone : (all_synced ((gone 1 ∷ []) ∷ []) (record {
    table = record empty_table { flush = to 1 0 ∷ [] };
    logs = record { active = []; flushing = to 1 0 ∷ [] };
  })).logs ≡ record { active = gone 1 ∷ []; flushing = [] }

-- at a swap the active log becomes the flushing one as it was appended
pub record Exchanged : Type 0 where
  pub before : (all_synced ((to 1 1 ∷ []) ∷ (to 1 0 ∷ []) ∷ replicate 5 []) at_first).logs
      ≡ record { active = to 1 1 ∷ to 1 0 ∷ []; flushing = [] }
  pub swapped : (all_synced ((to 1 1 ∷ []) ∷ (to 1 0 ∷ []) ∷ replicate 6 []) at_first).logs
      ≡ record { active = []; flushing = to 1 1 ∷ to 1 0 ∷ [] }
  pub at_once : (all_synced ((to 3 1 ∷ []) ∷ []) (record {
    table = record empty_table { flush = to 1 1 ∷ []; active = to 2 1 ∷ []; age = 8 };
    logs = record { active = to 2 1 ∷ []; flushing = to 1 1 ∷ [] };
  })).logs ≡ record { active = []; flushing = to 2 1 ∷ to 3 1 ∷ [] }
