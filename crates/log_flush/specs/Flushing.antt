-- What flushing the first records of a log comes to: of the stored table, of the two logs, and of the places that are released.
use Rattle.std.specs.Prelude.{◌≡◌, ℕ, ◌==◌, nat_lt, List, ◌++◌, length, take, drop, fold, Option, Some, None, if◌then◌else◌}
use Rattle.std.specs.List.{filter_map}
use Rattle.ddt_entry.specs.declared.entry.Entry.{Entry}
use Rattle.ddt_entry.specs.declared.entry.Change.{Change}
use Rattle.ddt_entry.specs.declared.entry.Change.TheVariants as changes
use Rattle.pool_model.specs.Table.{TableState, empty_table, flush_entry, flushed}
use Rattle.pool_model.specs.Logs.{emptied_log}
use Rattle.pool_model.specs.Replaying.{reached}
use Rattle.log_pair.specs.Paired.{Paired, of_table, popped, emptied_pair}

-- the place that a record releases as it leaves: that of a home that no pointer is counted under
abbrev pub freed_by : Change → Option ℕ
freed_by (changes.Entry entry) = if nat_lt 0 entry.home.count then None else Some entry.home.place
freed_by (changes.Gone key) = None

-- the places of the records of no pointer, in key order
abbrev pub freed_in : List Change → List ℕ
freed_in left = filter_map freed_by left

-- the stored table, the logs, and the places that were released so far
pub record Stage : Type 0 where
  pub zap : List Entry
  pub logs : Paired
  pub places : List ℕ

abbrev pub stage_of : List Entry → Paired → (places : List ℕ) → Stage
stage_of zap logs places = record { zap = zap; logs = logs; places = places }

-- the first record leaves, where there is one
abbrev pub first_flushed : Stage → Stage
first_flushed stage = record {
  zap = fold flush_entry stage.zap (take 1 stage.logs.flush);
  logs = popped stage.logs;
  places = stage.places ++ freed_in (take 1 stage.logs.flush);
}

-- the first so many records leave
abbrev pub so_flushed : ℕ → Stage → Stage
so_flushed count stage = record {
  zap = fold flush_entry stage.zap (take count stage.logs.flush);
  logs = record {
    active = stage.logs.active;
    flush = drop count stage.logs.flush;
    logs = stage.logs.logs;
    checkpoint = reached stage.logs.checkpoint (take count stage.logs.flush);
  };
  places = stage.places ++ freed_in (take count stage.logs.flush);
}

-- the flushing log is emptied where nothing is left of its list
abbrev pub finished : Paired → Paired
finished logs = if length logs.flush == 0 then emptied_pair logs else logs

-- a table with these homes and these logs
abbrev pub table_with : List Entry → Paired → TableState
table_with zap logs = record empty_table { zap = zap; flush = logs.flush; active = logs.active; checkpoint = logs.checkpoint }

-- the stored table and the logs are those of the table after its flush
pub record IsSecondStep (limit : ℕ) (zap : List Entry) (logs : Paired) (new_zap : List Entry) (new_logs : Paired) : Type 0 where
  pub zap_is : new_zap ≡ (flushed limit (table_with zap logs)).zap
  pub logs_are : new_logs ≡ of_table (flushed limit (table_with zap logs)) (emptied_log (drop limit logs.flush) logs.logs)
