-- Logs that are replayed to a table's lists still are after a sync: a change more is appended and set, what leaves the flushing list is
-- behind its checkpoint, and the logs swap as the lists do.
use Rattle.std.proofs.Common.{◌≡◌, ℕ, zero, suc, ◌+◌, ◌<◌, Bool, true, false, cond, not, ◌&&◌, List, [], ◌∷◌, ◌++◌, length, filter, take, drop, take-append-drop, append-nil, Option, Some, None, option_map, refl, sym, ap, subst, ◌∙◌, arith, ◌≤◌}
use Rattle.std.specs.Prelude.{◌==◌, ◌/◌, if◌then◌else◌}
use Rattle.std.specs.List.{AllByRecursion, last_or}
use Rattle.std.specs.Ordering.{is_eq, is_lt}
use Rattle.std.specs.declared.cmp.Ordering.{Ordering}
use Rattle.std.specs.declared.cmp.Ordering.TheVariants.{Less, Equal, Greater}
use Rattle.std.proofs.lemmas.Bool.{and_parts, false≢true}
use Rattle.std.proofs.lemmas.Bool.Decides.{nat_tests}
use Rattle.std.proofs.lemmas.Cmp.{tied_itself}
use Rattle.std.proofs.lemmas.List.{append_assoc, length-append}
use Rattle.std.proofs.lemmas.List.Elements.{filter_agree}
use Rattle.std.proofs.lemmas.List.Sums.{fold-append}
use Rattle.ddt_entry.specs.Keys.{key_cmp, key_eq}
use Rattle.ddt_entry.specs.Changes.{key_in}
use Rattle.ddt_entry.specs.declared.key.Key.{Key}
use Rattle.ddt_entry.specs.declared.entry.Change.{Change}
use Rattle.ddt_entry.proofs.KeyLaws.{key_cmp_total, exact_keys, key_eq-symm}
use Rattle.pool_model.specs.Table.{TableState, change_at, set_change, drop_change, is_past, log_change, logged, checkpoint_after, flushed, flush_limit, is_due, aged, swapped, sync_table, AreChangesRising}
use Rattle.pool_model.specs.Logs.{last_changes, is_missing, is_left, left_in, Logs, appended, emptied_log, exchanged, logs_after}
use Rattle.pool_model.specs.Replaying.{reached, Replays}
use Rattle.pool_model.proofs.Lists.{all_both, all_each, all_tested, filter_whole, pairs_filter, all_from, all_filter}
use Rattle.pool_model.proofs.Sorted.{less_of, rising_fold}
use Rattle.pool_model.proofs.TablePuts.{changes_put}
use Rattle.pool_model.proofs.Finding.{change_at-set}

abbrev ChangeBelow : Change → Change → Type 0
ChangeBelow a b = is_lt (key_cmp (key_in a) (key_in b)) ≡ true

-- those that pass a test of those that pass another
pub filter-both : {X : Type 0} (test other : X → Bool) (xs : List X) → filter test (filter other xs) ≡ filter (λ x. test x && other x) xs
filter-both test other [] = refl
filter-both {X} test other (x ∷ xs) = by_test (filter-both test other xs) (test x) refl (other x)
  where
    front : (b d : Bool) → filter test (filter other xs) ≡ filter (λ x. test x && other x) xs → test x ≡ b
        → filter test (cond d (x ∷ filter other xs) (filter other xs)) ≡ cond (b && d) (x ∷ filter (λ x. test x && other x) xs)
        (filter (λ x. test x && other x) xs)
    front true true rest is =
        ap (λ e. cond e (x ∷ filter test (filter other xs)) (filter test (filter other xs))) is ∙ ap (λ (ys : List X). x ∷ ys) rest
    front false true rest is = ap (λ e. cond e (x ∷ filter test (filter other xs)) (filter test (filter other xs))) is ∙ rest
    front true false rest is = rest
    front false false rest is = rest

    by_test : filter test (filter other xs) ≡ filter (λ x. test x && other x) xs → (b : Bool) → test x ≡ b → (d : Bool)
        → filter test (cond d (x ∷ filter other xs) (filter other xs)) ≡ cond (test x && d) (x ∷ filter (λ x. test x && other x) xs)
        (filter (λ x. test x && other x) xs)
    by_test rest b is d =
        front b d rest is ∙ ap (λ e. cond (e && d) (x ∷ filter (λ x. test x && other x) xs) (filter (λ x. test x && other x) xs)) (sym is)

-- ---- A change more

pub last_changes-push : (change : Change) (log : List Change) → last_changes (log ++ change ∷ []) ≡ set_change change (last_changes log)
last_changes-push change log = fold-append (λ sorted c. set_change c sorted) [] log (change ∷ [])

-- the last changes rise by key
pub last_rising : (log : List Change) → AreChangesRising (last_changes log)
last_rising log = rising_fold changes_put log [] tt

-- a key that is changed again leaves what is to be flushed
pub left_in-set : (checkpoint : Option Key) (active flushing : List Change) (change : Change)
    → drop_change (key_in change) (left_in checkpoint active flushing) ≡ left_in checkpoint (set_change change active) flushing
left_in-set checkpoint active flushing change =
    filter-both (λ c. not (key_eq (key_in c) (key_in change))) (λ c. is_left checkpoint active (key_in c)) (last_changes flushing)
    ∙ filter_agree (λ c. not (key_eq (key_in c) (key_in change)) && is_left checkpoint active (key_in c))
    (λ c. is_left checkpoint (set_change change active) (key_in c)) (λ c. agrees (key_in c)) (last_changes flushing)
  where
    by_tests : (e past : Bool) (o : Option Change) → (not e && (past && is_missing o)) ≡ (past && is_missing (cond e (Some change) o))
    by_tests true true o = refl
    by_tests true false o = refl
    by_tests false past o = refl

    agrees : (key : Key) → (not (key_eq key (key_in change)) && is_left checkpoint active key)
        ≡ is_left checkpoint (set_change change active) key
    agrees key =
        ap (λ e. not e && is_left checkpoint active key) (key_eq-symm key (key_in change))
        ∙ by_tests (key_eq (key_in change) key) (is_past checkpoint key) (change_at key active)
        ∙ ap (λ o. is_past checkpoint key && is_missing o) (sym (change_at-set key change active))

-- ---- A flush

past_than : (checkpoint : Option Key) (key other : Key) → is_past checkpoint key ≡ true → is_lt (key_cmp key other) ≡ true
    → is_past checkpoint other ≡ true
past_than None key other past above = refl
past_than (Some checkpoint) key other past above =
    ap is_lt (key_cmp_total.trans checkpoint key other (less_of (key_cmp checkpoint key) past) (less_of (key_cmp key other) above))

left_past : (checkpoint : Option Key) (active flushing : List Change)
    → AllByRecursion (λ c. is_past checkpoint (key_in c) ≡ true) (left_in checkpoint active flushing)
left_past checkpoint active flushing =
    all_tested (λ c. is_past checkpoint (key_in c) ≡ true) (λ c. is_left checkpoint active (key_in c))
    (λ c left. (and_parts (is_past checkpoint (key_in c)) (is_missing (change_at (key_in c) active)) left).0) (last_changes flushing)

left_rising : (checkpoint : Option Key) (active flushing : List Change) → AreChangesRising (left_in checkpoint active flushing)
left_rising checkpoint active flushing =
    pairs_filter ChangeBelow (λ c. is_left checkpoint active (key_in c)) (last_changes flushing) (last_rising flushing)

-- behind the first of what is left comes the rest
first_goes : (change : Change) (rest : List Change) → AllByRecursion (ChangeBelow change) rest
    → filter (λ c. is_past (Some (key_in change)) (key_in c)) (change ∷ rest) ≡ rest
first_goes change rest above =
    ap (λ o. cond (is_lt o) (change ∷ filter (λ c. is_past (Some (key_in change)) (key_in c)) rest)
    (filter (λ c. is_past (Some (key_in change)) (key_in c)) rest)) (tied_itself key_cmp_total (key_in change))
    ∙ filter_whole (λ c. is_past (Some (key_in change)) (key_in c)) rest above

-- once the first of what is left has left, the checkpoint is its key, and the others are left
pub left_in-first : (checkpoint : Option Key) (active flushing : List Change) (change : Change) (rest : List Change)
    → left_in checkpoint active flushing ≡ change ∷ rest → left_in (Some (key_in change)) active flushing ≡ rest
left_in-first checkpoint active flushing change rest is =
    filter_agree (λ c. is_left (Some (key_in change)) active (key_in c))
    (λ c. is_past (Some (key_in change)) (key_in c) && is_left checkpoint active (key_in c)) (λ c. agrees (key_in c))
    (last_changes flushing)
    ∙ sym (filter-both (λ c. is_past (Some (key_in change)) (key_in c)) (λ c. is_left checkpoint active (key_in c)) (last_changes flushing))
    ∙ ap (λ (log : List Change). filter (λ c. is_past (Some (key_in change)) (key_in c)) log) is
    ∙ first_goes change rest (subst AreChangesRising is (left_rising checkpoint active flushing)).0
  where
    is_behind : is_past checkpoint (key_in change) ≡ true
    is_behind = (subst (AllByRecursion (λ c. is_past checkpoint (key_in c) ≡ true)) is (left_past checkpoint active flushing)).0

    by_test : (missing past b : Bool) → (b ≡ true → past ≡ true) → (b && missing) ≡ (b && (past && missing))
    by_test missing past false from = refl
    by_test missing past true from = ap (λ p. p && missing) (sym (from refl))

    agrees : (key : Key)
        → is_left (Some (key_in change)) active key ≡ (is_past (Some (key_in change)) key && is_left checkpoint active key)
    agrees key =
        by_test (is_missing (change_at key active)) (is_past checkpoint key) (is_past (Some (key_in change)) key)
        (λ above. past_than checkpoint (key_in change) key is_behind above)

-- and so for the first few
pub left_in-front : (checkpoint : Option Key) (active flushing left rest : List Change)
    → left_in checkpoint active flushing ≡ left ++ rest → left_in (reached checkpoint left) active flushing ≡ rest
left_in-front checkpoint active flushing [] rest is = is
left_in-front checkpoint active flushing (change ∷ left) rest is =
    left_in-front (Some (key_in change)) active flushing left rest (left_in-first checkpoint active flushing change (left ++ rest) is)

reached_last : (change : Change) (left : List Change)
    → option_map key_in (last_or (Some change) left) ≡ reached (Some (key_in change)) left
reached_last change [] = refl
reached_last change (next ∷ left) = reached_last next left

-- the table's checkpoint after a flush is the last key that left
pub checkpoint_reached : (checkpoint : Option Key) (change : Change) (left : List Change) (next : Change) (rest : List Change)
    → checkpoint_after (change ∷ left) (next ∷ rest) ≡ reached checkpoint (change ∷ left)
checkpoint_reached checkpoint change left next rest = reached_last change left

pub emptied-more : (change : Change) (rest : List Change) (logs : Logs) → emptied_log (change ∷ rest) logs ≡ logs
emptied-more change rest logs =
    let more : (length (change ∷ rest) == 0) ≡ false = grind (arith, nat_tests) in
    ap (λ (b : Bool). if b then record { active = logs.active; flushing = [] } else logs) more

pub emptied-active : (flush : List Change) (logs : Logs) → (emptied_log flush logs).active ≡ logs.active
emptied-active [] logs = refl
emptied-active (change ∷ rest) logs = ap (λ (l : Logs). l.active) (emptied-more change rest logs)

pub nothing_behind : (limit : ℕ) (flush : List Change) → 0 < limit → take limit flush ≡ [] → drop limit flush ≡ []
nothing_behind zero flush some none = absurd (omega (arith, some))
nothing_behind (suc limit) [] some none = refl
nothing_behind (suc limit) (change ∷ flush) some none = absurd (cc none)

-- what leaves is behind the checkpoint
flush_left : (checkpoint : Option Key) (logs : Logs) (left rest : List Change) → (left ≡ [] → rest ≡ [])
    → left_in checkpoint (last_changes logs.active) logs.flushing ≡ left ++ rest
    → rest ≡ left_in (checkpoint_after left rest) (last_changes (emptied_log rest logs).active) (emptied_log rest logs).flushing
flush_left checkpoint logs left [] some is = refl
flush_left checkpoint logs [] (next ∷ rest) some is = absurd (cc (some refl))
flush_left checkpoint logs (change ∷ left) (next ∷ rest) some is =
    sym (left_in-front checkpoint (last_changes logs.active) logs.flushing (change ∷ left) (next ∷ rest) is)
    ∙ ap (λ (o : Option Key). left_in o (last_changes logs.active) logs.flushing)
    (sym (checkpoint_reached checkpoint change left next rest))
    ∙ ap (λ (l : Logs). left_in (checkpoint_after (change ∷ left) (next ∷ rest)) (last_changes l.active) l.flushing)
    (sym (emptied-more next rest logs))

-- ---- The three steps of a sync

-- a change of a group
pub log_change_replays : (change : Change) (table : TableState) (logs : Logs) → Replays table logs
    → Replays (log_change table change) (appended (change ∷ []) logs)
log_change_replays change table logs is = record {
  active = ap (set_change change) is.active ∙ sym (last_changes-push change logs.active);
  flush =
      ap (drop_change (key_in change)) is.flush
      ∙ left_in-set table.checkpoint (last_changes logs.active) logs.flushing change
      ∙ ap (λ (log : List Change). left_in table.checkpoint log logs.flushing) (sym (last_changes-push change logs.active));
}

-- all of them
logged_replays : (changes : List Change) (table : TableState) (logs : Logs) → Replays table logs
    → Replays (logged changes table) (appended changes logs)
logged_replays [] table logs is = record {
  active = is.active ∙ ap last_changes (sym (append-nil logs.active));
  flush = is.flush ∙ ap (λ (log : List Change). left_in table.checkpoint (last_changes log) logs.flushing) (sym (append-nil logs.active));
}
logged_replays (change ∷ changes) table logs is =
    subst (λ (log : List Change). Replays (logged changes (log_change table change)) (record { active = log; flushing = logs.flushing }))
    (append_assoc logs.active (change ∷ []) changes)
    (logged_replays changes (log_change table change) (appended (change ∷ []) logs) (log_change_replays change table logs is))

flushed_replays : (limit : ℕ) (table : TableState) (logs : Logs) → 0 < limit → Replays table logs
    → Replays (flushed limit table) (emptied_log (drop limit table.flush) logs)
flushed_replays limit table logs some is = record {
  active = is.active ∙ ap last_changes (sym (emptied-active (drop limit table.flush) logs));
  flush = flush_left table.checkpoint logs (take limit table.flush) (drop limit table.flush) (nothing_behind limit table.flush some)
      (sym is.flush ∙ sym (take-append-drop limit table.flush));
}

swapped_replays : (table : TableState) (logs : Logs) → Replays table logs → Replays (swapped table) (exchanged (is_due (aged table)) logs)
swapped_replays table logs is = by_due (is_due (aged table))
  where
    by_due : (b : Bool) → Replays (if b then record table { flush = table.active; active = []; age = 0; checkpoint = None } else aged table)
        (exchanged b logs)
    by_due true = record {
      active = refl;
      flush = is.active ∙ sym (filter_whole (λ c. is_left None [] (key_in c)) (last_changes logs.active)
          (all_each (λ c. is_left None [] (key_in c) ≡ true) (λ c. refl) (last_changes logs.active)));
    }
    by_due false = record { active = is.active; flush = is.flush }

-- a sync keeps them so
pub sync_replays : (changes : List Change) (table : TableState) (logs : Logs) → Replays table logs
    → Replays (sync_table changes table) (logs_after changes table logs)
sync_replays changes table logs is =
    swapped_replays (flushed (flush_limit table) (logged changes table))
    (emptied_log (drop (flush_limit table) (logged changes table).flush) (appended changes logs))
    (flushed_replays (flush_limit table) (logged changes table) (appended changes logs) (some (length table.flush / 8))
    (logged_replays changes table logs is))
  where
    some : (n : ℕ) → 0 < 64 + n
    some n = omega arith

-- ---- What a sync leaves of the logs

-- a sync adds at most its changes to the logs
pub logs_length : (changes : List Change) (table : TableState) (logs : Logs)
    → length (logs_after changes table logs).active + length (logs_after changes table logs).flushing
    ≤ length logs.active + length logs.flushing + length changes
logs_length changes table logs =
    omega (
      arith,
      by_due (is_due (aged (flushed (flush_limit table) (logged changes table))))
          (emptied_log (flushed (flush_limit table) (logged changes table)).flush (appended changes logs)),
      by_rest (length (flushed (flush_limit table) (logged changes table)).flush == 0) (appended changes logs),
      length-append logs.active changes,
    )
  where
    by_due : (due : Bool) (l : Logs) → length (exchanged due l).active + length (exchanged due l).flushing ≤ length l.active + length l.flushing
    by_due true l = omega arith
    by_due false l = omega arith

    by_rest : (none : Bool) (l : Logs) → length (if none then record { active = l.active; flushing = [] } else l).active
        + length (if none then record { active = l.active; flushing = [] } else l).flushing ≤ length l.active + length l.flushing
    by_rest true l = omega arith
    by_rest false l = omega arith

-- a property of each change of the logs
pub record IsEachLogged (Q : Change → Type 0) (logs : Logs) : Type 0 where
  pub active : AllByRecursion Q logs.active
  pub flushing : AllByRecursion Q logs.flushing

-- a sync keeps it
pub logs_each : (Q : Change → Type 0) (changes : List Change) (table : TableState) (logs : Logs) → IsEachLogged Q logs
    → AllByRecursion Q changes → IsEachLogged Q (logs_after changes table logs)
logs_each Q changes table logs each all =
    by_due (is_due (aged (flushed (flush_limit table) (logged changes table))))
    (emptied_log (flushed (flush_limit table) (logged changes table)).flush (appended changes logs))
    (by_rest (length (flushed (flush_limit table) (logged changes table)).flush == 0) (appended changes logs)
    (record { active = all_both Q logs.active changes each.active all; flushing = each.flushing }))
  where
    by_due : (due : Bool) (l : Logs) → IsEachLogged Q l → IsEachLogged Q (exchanged due l)
    by_due true l here = record { active = tt; flushing = here.active }
    by_due false l here = here

    by_rest : (none : Bool) (l : Logs) → IsEachLogged Q l
        → IsEachLogged Q (if none then record { active = l.active; flushing = [] } else l)
    by_rest true l here = record { active = here.active; flushing = tt }
    by_rest false l here = here

-- ---- A log that is read change by change

set_first : (change : Change) (log : List Change) → AllByRecursion (ChangeBelow change) log → set_change change log ≡ change ∷ log
set_first change [] below = refl
set_first change (c ∷ log) below =
    ap (λ o. if is_lt o then change ∷ c ∷ log else (if is_eq o then change ∷ log else c ∷ set_change change log))
    (less_of (key_cmp (key_in change) (key_in c)) below.0)

-- a change that is set between those that pass a test of their keys
module _ (test : Key → Bool) (change : Change) where
  abbrev passes : Change → Bool
  passes c = test (key_in c)

  passing_set : (log : List Change) → AreChangesRising log
      → filter passes (set_change change log) ≡ cond (passes change) (set_change change (filter passes log)) (filter passes log)
  passing_set [] rising = refl
  passing_set (c ∷ log) rising = by_order (passing_set log rising.1) (key_cmp (key_in change) (key_in c)) refl
    where
      more : List Change
      more = cond (passes c) (c ∷ filter passes log) (filter passes log)

      put : Ordering → List Change
      put o = if is_lt o then change ∷ c ∷ filter passes log
          else (if is_eq o then change ∷ filter passes log else c ∷ set_change change (filter passes log))

      tied : (b d : Bool) → b ≡ d → key_cmp (key_in change) (key_in c) ≡ Equal → cond b (change ∷ filter passes log) (filter passes log)
          ≡ cond b (set_change change (cond d (c ∷ filter passes log) (filter passes log)))
          (cond d (c ∷ filter passes log) (filter passes log))
      tied true true same said = sym (ap put said)
      tied true false same said = absurd (false≢true (sym same))
      tied false true same said = absurd (false≢true same)
      tied false false same said = refl

      behind : (b d : Bool) → key_cmp (key_in change) (key_in c) ≡ Greater
          → cond d (c ∷ cond b (set_change change (filter passes log)) (filter passes log))
          (cond b (set_change change (filter passes log)) (filter passes log))
          ≡ cond b (set_change change (cond d (c ∷ filter passes log) (filter passes log)))
          (cond d (c ∷ filter passes log) (filter passes log))
      behind true true said = sym (ap put said)
      behind true false said = refl
      behind false d said = refl

      by_order : filter passes (set_change change log) ≡ cond (passes change) (set_change change (filter passes log)) (filter passes log)
          → (o : Ordering) → key_cmp (key_in change) (key_in c) ≡ o
          → filter passes (if is_lt o then change ∷ c ∷ log else (if is_eq o then change ∷ log else c ∷ set_change change log))
          ≡ cond (passes change) (set_change change more) more
      by_order rest Less said =
          ap (λ (ys : List Change). cond (passes change) ys more)
          (sym (set_first change more (all_filter (ChangeBelow change) passes (c ∷ log) (
            ap is_lt said,
            all_from (ChangeBelow c) (ChangeBelow change)
                (λ x above. ap is_lt (key_cmp_total.trans (key_in change) (key_in c) (key_in x) said
                (less_of (key_cmp (key_in c) (key_in x)) above))) log rising.0,
          ))))
      by_order rest Equal said = tied (passes change) (passes c) (ap test (exact_keys (key_in change) (key_in c) said)) said
      by_order rest Greater said =
          ap (λ (ys : List Change). cond (passes c) (c ∷ ys) ys) rest ∙ behind (passes change) (passes c) said

-- what is left of a log with one change more
pub left_in-push : (checkpoint : Option Key) (active log : List Change) (change : Change)
    → left_in checkpoint active (log ++ change ∷ []) ≡ cond (is_left checkpoint active (key_in change))
    (set_change change (left_in checkpoint active log)) (left_in checkpoint active log)
left_in-push checkpoint active log change =
    ap (λ (ys : List Change). filter (λ c. is_left checkpoint active (key_in c)) ys) (last_changes-push change log)
    ∙ passing_set (is_left checkpoint active) change (last_changes log) (last_rising log)
