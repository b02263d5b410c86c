-- Flushing record by record comes to flushing the first few at once.
use Rattle.std.proofs.Common.{◌≡◌, ℕ, ◌+◌, ◌<◌, Bool, false, List, [], ◌∷◌, ◌++◌, length, take, drop, take-append-drop, fold, Option, refl, sym, ap, ◌∙◌, arith}
use Rattle.std.specs.Prelude.{◌==◌, if◌then◌else◌}
use Rattle.std.proofs.lemmas.List.{append_assoc, drop-drop, drop-take, take-take}
use Rattle.std.proofs.lemmas.List.Elements.{filter_map-append}
use Rattle.std.proofs.lemmas.List.Sums.{fold-append}
use Rattle.std.proofs.lemmas.Bool.Decides.{nat_tests}
use Rattle.ddt_entry.specs.declared.key.Key.{Key}
use Rattle.ddt_entry.specs.declared.entry.Entry.{Entry}
use Rattle.ddt_entry.specs.declared.entry.Change.{Change}
use Rattle.pool_model.specs.Table.{flush_entry, checkpoint_after}
use Rattle.pool_model.specs.Logs.{emptied_log}
use Rattle.pool_model.specs.Replaying.{reached}
use Rattle.pool_model.proofs.Replays.{checkpoint_reached, emptied-more, nothing_behind}
use Rattle.log_pair.specs.Paired.{Paired, popped, emptied_pair}
use Rattle.log_flush.specs.Flushing.{freed_by, freed_in, Stage, stage_of, first_flushed, so_flushed, finished, IsSecondStep}

-- ---- One more

one_more : (count : ℕ) (log : List Change) → take (count + 1) log ≡ take count log ++ take 1 (drop count log)
one_more count log =
    sym (take-append-drop count (take (count + 1) log))
    ∙ ap (λ (xs : List Change). xs ++ drop count (take (count + 1) log)) (take-take count (count + 1) log (omega arith))
    ∙ ap (λ (xs : List Change). take count log ++ xs) (drop-take count 1 log)

one_less : (count : ℕ) (log : List Change) → drop (count + 1) log ≡ drop 1 (drop count log)
one_less count log = sym (drop-drop 1 count log)

reached-append : (checkpoint : Option Key) (left more : List Change)
    → reached checkpoint (left ++ more) ≡ reached (reached checkpoint left) more
reached-append checkpoint [] more = refl
reached-append checkpoint (change ∷ left) more = reached-append _ left more

abbrev logs_of : Paired → (flush : List Change) → Option Key → Paired
logs_of pair flush checkpoint = record { active = pair.active; flush = flush; logs = pair.logs; checkpoint = checkpoint }

popped_so : (pair : Paired) (flush : List Change) (checkpoint : Option Key)
    → popped (logs_of pair flush checkpoint) ≡ logs_of pair (drop 1 flush) (reached checkpoint (take 1 flush))
popped_so pair [] checkpoint = refl
popped_so pair (change ∷ rest) checkpoint = refl

popped_more : (count : ℕ) (pair : Paired)
    → popped (logs_of pair (drop count pair.flush) (reached pair.checkpoint (take count pair.flush)))
    ≡ logs_of pair (drop (count + 1) pair.flush) (reached pair.checkpoint (take (count + 1) pair.flush))
popped_more count pair =
    popped_so pair (drop count pair.flush) (reached pair.checkpoint (take count pair.flush))
    ∙ ap (λ (log : List Change). logs_of pair log (reached (reached pair.checkpoint (take count pair.flush))
    (take 1 (drop count pair.flush)))) (sym (one_less count pair.flush))
    ∙ ap (λ (o : Option Key). logs_of pair (drop (count + 1) pair.flush) o)
    (sym (reached-append pair.checkpoint (take count pair.flush) (take 1 (drop count pair.flush)))
    ∙ ap (reached pair.checkpoint) (sym (one_more count pair.flush)))

zap_more : (count : ℕ) (zap : List Entry) (log : List Change)
    → fold flush_entry (fold flush_entry zap (take count log)) (take 1 (drop count log)) ≡ fold flush_entry zap (take (count + 1) log)
zap_more count zap log =
    sym (fold-append flush_entry zap (take count log) (take 1 (drop count log)))
    ∙ ap (fold flush_entry zap) (sym (one_more count log))

places_more : (count : ℕ) (places : List ℕ) (log : List Change)
    → (places ++ freed_in (take count log)) ++ freed_in (take 1 (drop count log)) ≡ places ++ freed_in (take (count + 1) log)
places_more count places log =
    append_assoc places (freed_in (take count log)) (freed_in (take 1 (drop count log)))
    ∙ ap (λ (xs : List ℕ). places ++ xs)
    (sym (filter_map-append freed_by (take count log) (take 1 (drop count log))) ∙ ap freed_in (sym (one_more count log)))

same_stage : {zap zap' : List Entry} {logs logs' : Paired} {places places' : List ℕ} → zap ≡ zap' → logs ≡ logs' → places ≡ places'
    → stage_of zap logs places ≡ stage_of zap' logs' places'
same_stage ez el ep = λ i. record { zap = ez i; logs = el i; places = ep i }

-- after so many records, the next one
pub so_flushed-more : (count : ℕ) (stage : Stage) → first_flushed (so_flushed count stage) ≡ so_flushed (count + 1) stage
so_flushed-more count stage =
    same_stage (zap_more count stage.zap stage.logs.flush) (popped_more count stage.logs)
    (places_more count stage.places stage.logs.flush)

-- ---- The second step of a sync

finished-more : (logs : Paired) (next : Change) (rest : List Change) (checkpoint : Option Key)
    → finished (logs_of logs (next ∷ rest) checkpoint) ≡ logs_of logs (next ∷ rest) checkpoint
finished-more logs next rest checkpoint =
    let more : (length (next ∷ rest) == 0) ≡ false = grind (arith, nat_tests) in
    ap (λ (b : Bool). if b then emptied_pair (logs_of logs (next ∷ rest) checkpoint) else logs_of logs (next ∷ rest) checkpoint) more

finished_as : (logs : Paired) (left rest : List Change) → (left ≡ [] → rest ≡ [])
    → finished (logs_of logs rest (reached logs.checkpoint left))
    ≡ record { active = logs.active; flush = rest; logs = emptied_log rest logs.logs; checkpoint = checkpoint_after left rest }
finished_as logs left [] some = refl
finished_as logs [] (next ∷ rest) some = absurd (cc (some refl))
finished_as logs (change ∷ left) (next ∷ rest) some =
    let kept : logs.logs ≡ emptied_log (next ∷ rest) logs.logs = sym (emptied-more next rest logs.logs) in
    let told : reached logs.checkpoint (change ∷ left) ≡ checkpoint_after (change ∷ left) (next ∷ rest) =
    sym (checkpoint_reached logs.checkpoint change left next rest) in
    finished-more logs next rest (reached logs.checkpoint (change ∷ left))
    ∙ λ i. record {
      active = logs.active;
      flush = next ∷ rest;
      logs = kept i;
      checkpoint = told i;
    }

-- a flush of at least one record is the second step of a table's sync
pub second_step : (limit : ℕ) (zap : List Entry) (logs : Paired) {new_zap : List Entry} {new_logs : Paired} → 0 < limit
    → new_zap ≡ (so_flushed limit (stage_of zap logs [])).zap → new_logs ≡ finished (so_flushed limit (stage_of zap logs [])).logs
    → IsSecondStep limit zap logs new_zap new_logs
second_step limit zap logs some zap_is logs_are = record {
  zap_is = zap_is;
  logs_are = logs_are ∙ finished_as logs (take limit logs.flush) (drop limit logs.flush) (nothing_behind limit logs.flush some);
}
