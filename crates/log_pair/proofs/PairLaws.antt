-- The lists of a pair stay what its logs are replayed to, and its calls are steps of a table's sync.
use Rattle.std.proofs.Common.{◌≡◌, true, List, [], ◌∷◌, append-nil, fold, None, refl, sym, ap, ◌∙◌}
use Rattle.std.proofs.lemmas.List.{append_assoc}
use Rattle.ddt_entry.specs.Changes.{key_in}
use Rattle.ddt_entry.specs.declared.entry.Change.{Change}
use Rattle.pool_model.specs.Table.{TableState, log_change, logged}
use Rattle.pool_model.specs.Logs.{Logs, last_changes, is_left, left_in, appended}
use Rattle.pool_model.proofs.Lists.{all_each, filter_whole}
use Rattle.pool_model.proofs.Replays.{log_change_replays, left_in-first}
use Rattle.log_object.specs.Logged.{Logged, with_checkpoint}
use Rattle.log_pair.specs.Paired.{Paired, pair_of, as_table, IsReplayed, of_table, with_change, flush_from}

-- ---- What each call keeps

pub with_change-replayed : (change : Change) (pair : Paired) → IsReplayed pair → IsReplayed (with_change change pair)
with_change-replayed change pair is = log_change_replays change (as_table pair) pair.logs is

-- the first change leaves the flushing list
pub first-replayed : (pair : Paired) (change : Change) (rest : List Change) → pair.flush ≡ change ∷ rest → IsReplayed pair
    → IsReplayed (flush_from pair (change ∷ rest))
first-replayed pair change rest same is = record {
  active = is.active;
  flush = sym (left_in-first pair.checkpoint (last_changes pair.logs.active) pair.logs.flushing change rest (sym is.flush ∙ same));
}

-- the lists and the logs change places, where the flushing ones are empty
pub exchanged-replayed : (active flush : List Change) (active_log flushing_log : Logged) → flush ≡ [] → flushing_log.changes ≡ []
    → IsReplayed (pair_of active flush active_log flushing_log)
    → IsReplayed (pair_of flush active flushing_log (with_checkpoint None active_log))
exchanged-replayed active flush active_log flushing_log none emptied is = record {
  active = none ∙ ap last_changes (sym emptied);
  flush =
      is.active
      ∙ sym (filter_whole (λ c. is_left None [] (key_in c)) (last_changes active_log.changes)
      (all_each (λ c. is_left None [] (key_in c) ≡ true) (λ c. refl) (last_changes active_log.changes)))
      ∙ ap (λ (log : List Change). left_in None (last_changes log) active_log.changes) (sym emptied);
}

-- ---- The calls as steps of a table's sync

-- changes that are appended one by one are its first step
pub logged-pair : (changes : List Change) (table : TableState) (logs : Logs)
    → fold (λ pair change. with_change change pair) (of_table table logs) changes ≡ of_table (logged changes table) (appended changes logs)
logged-pair [] table logs =
    ap (λ (log : List Change). of_table table (record { active = log; flushing = logs.flushing })) (sym (append-nil logs.active))
logged-pair (change ∷ changes) table logs =
    logged-pair changes (log_change table change) (appended (change ∷ []) logs)
    ∙ ap (λ (log : List Change). of_table (logged changes (log_change table change)) (record { active = log; flushing = logs.flushing }))
    (append_assoc logs.active (change ∷ []) changes)
