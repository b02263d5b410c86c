-- The sums over the counted homes, which follow a group's changes one by one, are those after the group's sync.
use Rattle.std.proofs.Common.{◌≡◌, ℕ, ◌+◌, ◌<◌, List, [], ◌∷◌, length, take, get_or, fold, refl, sym, ap, ◌∙◌}
use Rattle.std.proofs.lemmas.List.{take_more}
use Rattle.std.proofs.lemmas.List.Sums.{fold_push}
use Rattle.ddt_entry.specs.Changes.{key_in}
use Rattle.ddt_entry.specs.declared.entry.Change.{Change}
use Rattle.ddt_entry.specs.declared.entry.Entry.{Entry}
use Rattle.log_pair.specs.Paired.{Paired, with_change}
use Rattle.pool_model.specs.Table.{TableState, IsTable, home_in, found, counted_homes, logged, sync_table}
use Rattle.pool_model.proofs.Syncing.{logged_keeps}
use Rattle.pool_model.proofs.Counted.{counted-logged, counted-synced}
use Rattle.pool_stats.specs.Totals.{count_in, totals_in, totals_moved}
use Rattle.pool_stats.specs.declared.running.RunningTotals.{RunningTotals}
use Rattle.pool_stats.proofs.HomeSums.{totals_logged}
use Rattle.table_state.specs.Kept.{kept_in}
use Rattle.txg_sync.specs.TableSteps.{CountedLogs, table_over, counted_change}

-- the logs go their way whatever is counted
pub pair_logged : (zap : List Entry) (changes : List Change) (counted : CountedLogs)
    → (fold (counted_change zap) counted changes).pair ≡ fold (λ pair change. with_change change pair) counted.pair changes
pair_logged zap [] counted = refl
pair_logged zap (change ∷ changes) counted = pair_logged zap changes (counted_change zap counted change)

-- the sums are those of the changes that are logged
totals_so_far : (zap : List Entry) (changes : List Change) (counted : CountedLogs) → IsTable (table_over zap counted.pair)
    → counted.totals ≡ totals_in (counted_homes (table_over zap counted.pair))
    → (fold (counted_change zap) counted changes).totals ≡ totals_in (counted_homes (logged changes (table_over zap counted.pair)))
totals_so_far zap [] counted is kept = kept
totals_so_far zap (change ∷ changes) counted is kept =
    totals_so_far zap changes (counted_change zap counted change) (logged_keeps (change ∷ []) (table_over zap counted.pair) is)
    (ap (λ (t : RunningTotals). totals_moved (key_in change).len (count_in (found (table_over zap counted.pair) (key_in change)))
    (count_in (home_in change)) t) kept
    ∙ sym (totals_logged (table_over zap counted.pair) change is))

pub totals_synced : (changes : List Change) (zap : List Entry) (pair : Paired) (age : ℕ) (totals : RunningTotals)
    → IsTable (kept_in zap pair age).table → totals ≡ totals_in (counted_homes (kept_in zap pair age).table)
    → (fold (counted_change zap) (record { pair = pair; totals = totals }) changes).totals
    ≡ totals_in (counted_homes (sync_table changes (kept_in zap pair age).table))
totals_synced changes zap pair age totals is kept =
    totals_so_far zap changes (record { pair = pair; totals = totals }) ageless kept
    ∙ ap totals_in (counted-logged changes (table_over zap pair) ageless ∙ sym (counted-synced changes (kept_in zap pair age).table is))
  where
    ageless : IsTable (table_over zap pair)
    ageless = record {
      zap_rising = is.zap_rising;
      zap_counted = is.zap_counted;
      flush_rising = is.flush_rising;
      active_rising = is.active_rising;
      logs_apart = is.logs_apart;
      past = is.past;
    }

-- one change more of a list
pub counted_more : (zap : List Entry) (start so_far next : CountedLogs) (changes : List Change) (i : ℕ) (default : Change)
    → i < length changes → so_far ≡ fold (counted_change zap) start (take i changes)
    → next ≡ counted_change zap so_far (get_or changes i default) → next ≡ fold (counted_change zap) start (take (i + 1) changes)
counted_more zap start so_far next changes i default within are is =
    is ∙ ap (λ c. counted_change zap c (get_or changes i default)) are
    ∙ sym (fold_push (counted_change zap) start (take i changes) (get_or changes i default))
    ∙ ap (fold (counted_change zap) start) (sym (take_more changes i default within))
