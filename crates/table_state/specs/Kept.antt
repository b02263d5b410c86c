-- The table of a pool in memory, of its stored homes, its two logs and its age.
use Rattle.std.specs.Prelude.{ℕ, List}
use Rattle.ddt_entry.specs.declared.entry.Entry.{Entry}
use Rattle.log_pair.specs.Paired.{Paired}
use Rattle.pool_model.specs.Replaying.{LoggedTable}

abbrev pub kept_in : (stored : List Entry) → Paired → (age : ℕ) → LoggedTable
kept_in stored pair age = record {
  table = record { zap = stored; flush = pair.flush; active = pair.active; age = age; checkpoint = pair.checkpoint };
  logs = pair.logs;
}
