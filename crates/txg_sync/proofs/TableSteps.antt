-- The three steps that change a table in place are its sync.
use Rattle.std.proofs.Common.{◌≡◌, ◌∙◌, List, [], ◌∷◌, refl, sym, ap, subst, fold, drop}
use Rattle.ddt_entry.specs.declared.entry.Change.{Change}
use Rattle.ddt_entry.specs.declared.entry.Entry.{Entry}
use Rattle.log_flush.specs.Flushing.{IsSecondStep}
use Rattle.log_pair.specs.Paired.{Paired, of_table, with_change}
use Rattle.log_pair.proofs.PairLaws.{logged-pair}
use Rattle.pool_model.specs.Logs.{Logs, appended, emptied_log}
use Rattle.pool_model.specs.Replaying.{sync_logged}
use Rattle.pool_model.specs.Table.{TableState, flush_limit, log_change, logged, flushed}
use Rattle.table_state.specs.Kept.{kept_in}
use Rattle.log_flush.specs.Flushing.{table_with}
use Rattle.txg_sync.specs.TableSteps.{third_step}

-- changes that are logged leave the stored homes and the age
logged-zap : (changes : List Change) (table : TableState) → (logged changes table).zap ≡ table.zap
logged-zap [] table = refl
logged-zap (change ∷ changes) table = logged-zap changes (log_change table change)

logged-age : (changes : List Change) (table : TableState) → (logged changes table).age ≡ table.age
logged-age [] table = refl
logged-age (change ∷ changes) table = logged-age changes (log_change table change)

-- what the second step leaves, where its first was taken from this table
second : (table : TableState) (logs : Logs) (limit : _) (pair : Paired) (zap : List Entry)
    → IsSecondStep limit table.zap (of_table table logs) zap pair
    → kept_in zap pair table.age ≡ record { table = flushed limit table; logs = emptied_log (drop limit table.flush) logs }
second table logs limit pair zap step =
    ap (λ (z : List Entry). kept_in z pair table.age) step.zap_is
    ∙ ap (λ (p : Paired). kept_in (flushed limit (table_with table.zap (of_table table logs))).zap p table.age) step.logs_are

-- all three
pub stepped : (changes : List Change) (table : TableState) (logs : Logs) (appended_logs pair : Paired) (zap : List Entry)
    → appended_logs ≡ fold (λ pair change. with_change change pair) (of_table table logs) changes
    → IsSecondStep (flush_limit table) table.zap appended_logs zap pair
    → third_step (kept_in zap pair table.age) ≡ sync_logged changes (record { table = table; logs = logs })
stepped changes table logs appended_logs pair zap is step =
    let told : appended_logs ≡ of_table (logged changes table) (appended changes logs) = is ∙ logged-pair changes table logs in
    let after : IsSecondStep (flush_limit table) (logged changes table).zap
    (of_table (logged changes table) (appended changes logs)) zap pair =
    subst (λ (p : Paired). IsSecondStep (flush_limit table) (logged changes table).zap p zap pair) told
    (subst (λ (z : List Entry). IsSecondStep (flush_limit table) z appended_logs zap pair) (sym (logged-zap changes table)) step) in
    ap third_step
    (ap (kept_in zap pair) (sym (logged-age changes table))
    ∙ second (logged changes table) (appended changes logs) (flush_limit table) pair zap after)
