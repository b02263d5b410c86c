-- The logs after a sync, by the table that it left: an age of 0 tells that they were swapped.
use Rattle.std.proofs.Common.{◌≡◌, ℕ, ◌+◌, ◌^◌, ◌-◌, min, Bool, true, false, List, [], ap, arith, None, sym, ◌∙◌}
use Rattle.std.specs.Prelude.{◌==◌, if◌then◌else◌}
use Rattle.std.proofs.lemmas.Bool.Decides.{nat_tests}
use Rattle.ddt_entry.specs.declared.entry.Change.{Change}
use Rattle.pool_model.specs.Table.{TableState, logged, flushed, flush_limit, is_due, aged, swapped, sync_table}
use Rattle.pool_model.specs.Logs.{Logs, appended, emptied_log, exchanged, logs_settled, logs_after}
use Rattle.pool_model.proofs.Replays.{emptied-active}
use Rattle.plain_table.specs.Logged.{logs_by}

older : (age : ℕ) → (min (age + 1) (2 ^ 64 - 1) == 0) ≡ false
older age = grind (arith, nat_tests)

-- once the logs may swap
settled_by : (changes : List Change) (table : TableState) (logs : Logs)
    → logs_by (swapped table) changes logs ≡ logs_settled table (appended changes logs)
settled_by changes table logs = by_due (is_due (aged table))
  where
    after : Bool → TableState
    after b = if b then record table { flush = table.active; active = []; age = 0; checkpoint = None } else aged table

    same_active : (l m : Logs) → l.active ≡ m.active → exchanged true l ≡ exchanged true m
    same_active l m same = ap (λ (log : List Change). record { active = []; flushing = log }) same

    by_due : (b : Bool) → logs_by (after b) changes logs ≡ exchanged b (emptied_log table.flush (appended changes logs))
    by_due true = same_active (emptied_log table.active (appended changes logs)) (emptied_log table.flush (appended changes logs))
        (emptied-active table.active (appended changes logs) ∙ sym (emptied-active table.flush (appended changes logs)))
    by_due false = ap (λ b. exchanged b (emptied_log table.flush (appended changes logs))) (older table.age)

-- they are those of the definitions
pub logs_are_by : (changes : List Change) (table : TableState) (logs : Logs)
    → logs_by (sync_table changes table) changes logs ≡ logs_after changes table logs
logs_are_by changes table logs = settled_by changes (flushed (flush_limit table) (logged changes table)) logs
