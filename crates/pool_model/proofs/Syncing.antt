-- A sync leaves a sorted table sorted, and each of its entries and changes with what each had.
use Rattle.std.proofs.Common.{◌≡◌, ℕ, Bool, true, false, not, List, [], ◌∷◌, ◌++◌, fold, take, drop, take-append-drop, Option, Some, None, option_map, refl, sym, ap, subst, ◌∙◌}
use Rattle.std.specs.Prelude.{nat_lt, IfSome, if◌then◌else◌}
use Rattle.std.specs.List.{AllByRecursion, last_or}
use Rattle.std.specs.Ordering.{is_lt}
use Rattle.std.proofs.lemmas.Bool.{not-true}
use Rattle.ddt_entry.specs.Keys.{key_cmp, key_eq}
use Rattle.ddt_entry.specs.Changes.{key_in}
use Rattle.ddt_entry.specs.declared.key.Key.{Key}
use Rattle.ddt_entry.specs.declared.entry.Entry.{Entry}
use Rattle.ddt_entry.specs.declared.entry.Change.{Change}
use Rattle.ddt_entry.specs.declared.entry.Change.TheVariants as changes
use Rattle.ddt_entry.proofs.KeyLaws.{key_eq-symm}
use Rattle.pool_model.specs.Table.{TableState, change_at, set_entry, set_change, drop_entry, log_change, logged, flush_entry, checkpoint_after, flushed, is_due, aged, swapped, flush_limit, sync_table, AreRising, is_past, IsTable, AreChangesRising}
use Rattle.pool_model.proofs.Lists.{all_each, all_filter, all_passed, all_missed, none_found, pairs_filter, pairs_drop, all_behind, all_take, all_drop, fold_keeps}
use Rattle.pool_model.proofs.Sorted.{rising_put, all_put}
use Rattle.pool_model.proofs.TablePuts.{entries_put, changes_put}

-- ---- Sorted

abbrev Anything : {X : Type 0} → X → Type 0
Anything x = Unit {0}

abbrev ChangeBelow : Change → Change → Type 0
ChangeBelow a b = is_lt (key_cmp (key_in a) (key_in b)) ≡ true

abbrev EntryBelow : Entry → Entry → Type 0
EntryBelow a b = is_lt (key_cmp a.key b.key) ≡ true

-- a change comes to the active log, and its key leaves the flushing log
log_change_keeps : (table : TableState) (change : Change) → IsTable table → IsTable (log_change table change)
log_change_keeps table change is = record {
  zap_rising = is.zap_rising;
  zap_counted = is.zap_counted;
  flush_rising = pairs_filter ChangeBelow (λ c. not (key_eq (key_in c) (key_in change))) table.flush is.flush_rising;
  active_rising = rising_put changes_put change table.active is.active_rising;
  logs_apart =
      all_passed (λ c. change_at (key_in c) table.active ≡ None) (λ c. change_at (key_in c) (set_change change table.active) ≡ None)
      (λ c. not (key_eq (key_in c) (key_in change)))
      (λ c other none. still_none c
      (key_eq-symm (key_in change) (key_in c) ∙ not-true (key_eq (key_in c) (key_in change)) other) none) table.flush is.logs_apart;
  past = all_filter (λ c. is_past table.checkpoint (key_in c) ≡ true) (λ c. not (key_eq (key_in c) (key_in change))) table.flush is.past;
}
  where
    still_none : (c : Change) → key_eq (key_in change) (key_in c) ≡ false → change_at (key_in c) table.active ≡ None
        → change_at (key_in c) (set_change change table.active) ≡ None
    still_none c apart none =
        none_found (λ other. key_eq (key_in other) (key_in c)) (set_change change table.active)
        (all_put changes_put (λ other. key_eq (key_in other) (key_in c) ≡ false) change table.active apart
        (all_missed (λ other. key_eq (key_in other) (key_in c)) table.active none))

-- so do all of them
pub logged_keeps : (log : List Change) (table : TableState) → IsTable table → IsTable (logged log table)
logged_keeps log table is =
    fold_keeps IsTable Anything log_change (λ state change now _. log_change_keeps state change now) log table is
    (all_each Anything (λ _. tt) log)

-- a stored table that is sorted, whose homes are counted
record IsStored (zap : List Entry) : Type 0 where
  rising : AreRising zap
  counted : AllByRecursion (λ entry. nat_lt 0 entry.home.count ≡ true) zap

drop_keeps : (key : Key) (zap : List Entry) → IsStored zap → IsStored (drop_entry key zap)
drop_keeps key zap is = record {
  rising = pairs_filter EntryBelow (λ entry. not (key_eq entry.key key)) zap is.rising;
  counted = all_filter (λ entry. nat_lt 0 entry.home.count ≡ true) (λ entry. not (key_eq entry.key key)) zap is.counted;
}

flush_entry_keeps : (zap : List Entry) (change : Change) → IsStored zap → IsStored (flush_entry zap change)
flush_entry_keeps zap (changes.Entry entry) is = by_count (nat_lt 0 entry.home.count) refl
  where
    by_count : (b : Bool) → nat_lt 0 entry.home.count ≡ b → IsStored (if b then set_entry entry zap else drop_entry entry.key zap)
    by_count true some = record {
      rising = rising_put entries_put entry zap is.rising;
      counted = all_put entries_put (λ e. nat_lt 0 e.home.count ≡ true) entry zap some is.counted;
    }
    by_count false none = drop_keeps entry.key zap is
flush_entry_keeps zap (changes.Gone key) is = drop_keeps key zap is

-- what a list has last has what all of it have
last_has : (P : Change → Type 0) (o : Option Change) (left : List Change) → IfSome o P → AllByRecursion P left → IfSome (last_or o left) P
last_has P o [] here all = here
last_has P o (x ∷ left) here all = last_has P (Some x) left all.0 all.1

-- what is left of a sorted log is behind the checkpoint
behind_checkpoint : (left rest : List Change) → AreChangesRising (left ++ rest)
    → AllByRecursion (λ c. is_past (checkpoint_after left rest) (key_in c) ≡ true) rest
behind_checkpoint left [] rising = tt
behind_checkpoint left (change ∷ rest) rising =
    by_last (last_or None left) (last_has BelowAll None left tt (all_behind ChangeBelow left (change ∷ rest) rising))
  where
    BelowAll : Change → Type 0
    BelowAll last = AllByRecursion (ChangeBelow last) (change ∷ rest)

    by_last : (o : Option Change) → IfSome o BelowAll
        → AllByRecursion (λ c. is_past (option_map key_in o) (key_in c) ≡ true) (change ∷ rest)
    by_last None below = all_each (λ c. is_past None (key_in c) ≡ true) (λ c. refl) (change ∷ rest)
    by_last (Some last) below = below

flushed_keeps : (limit : ℕ) (table : TableState) → IsTable table → IsTable (flushed limit table)
flushed_keeps limit table is =
    let stored : IsStored (fold flush_entry table.zap (take limit table.flush)) =
    fold_keeps IsStored Anything flush_entry (λ zap change now _. flush_entry_keeps zap change now) (take limit table.flush) table.zap
    (record { rising = is.zap_rising; counted = is.zap_counted }) (all_each Anything (λ _. tt) (take limit table.flush))
    in
    record {
      zap_rising = stored.rising;
      zap_counted = stored.counted;
      flush_rising = pairs_drop ChangeBelow limit table.flush is.flush_rising;
      active_rising = is.active_rising;
      logs_apart = all_drop (λ c. change_at (key_in c) table.active ≡ None) limit table.flush is.logs_apart;
      past = behind_checkpoint (take limit table.flush) (drop limit table.flush)
          (subst AreChangesRising (sym (take-append-drop limit table.flush)) is.flush_rising);
    }

swapped_keeps : (table : TableState) → IsTable table → IsTable (swapped table)
swapped_keeps table is = by_due (is_due (aged table))
  where
    by_due : (b : Bool) → IsTable
        (if b then record table { flush = table.active; active = []; age = 0; checkpoint = None } else aged table)
    by_due true = record {
      zap_rising = is.zap_rising;
      zap_counted = is.zap_counted;
      flush_rising = is.active_rising;
      active_rising = tt;
      logs_apart = all_each (λ c. change_at (key_in c) [] ≡ None) (λ c. refl) table.active;
      past = all_each (λ c. is_past None (key_in c) ≡ true) (λ c. refl) table.active;
    }
    by_due false = record {
      zap_rising = is.zap_rising;
      zap_counted = is.zap_counted;
      flush_rising = is.flush_rising;
      active_rising = is.active_rising;
      logs_apart = is.logs_apart;
      past = is.past;
    }

-- a sync leaves a sorted table sorted
pub sync_keeps : (log : List Change) (table : TableState) → IsTable table → IsTable (sync_table log table)
sync_keeps log table is =
    swapped_keeps (flushed (flush_limit table) (logged log table))
    (flushed_keeps (flush_limit table) (logged log table) (logged_keeps log table is))

-- ---- The checkpoint

-- a checkpoint stands only beside changes that are left to flush
pub sync_checkpoint : (log : List Change) (table : TableState) → (sync_table log table).flush ≡ []
    → (sync_table log table).checkpoint ≡ None
sync_checkpoint log table =
    by_due (flushed (flush_limit table) (logged log table)) (ap (checkpoint_after (take (flush_limit table) (logged log table).flush)))
  where
    by_due : (t : TableState) → (t.flush ≡ [] → t.checkpoint ≡ None) → (swapped t).flush ≡ [] → (swapped t).checkpoint ≡ None
    by_due t before = by_test (is_due (aged t))
      where
        after : Bool → TableState
        after b = if b then record t { flush = t.active; active = []; age = 0; checkpoint = None } else aged t

        by_test : (b : Bool) → (after b).flush ≡ [] → (after b).checkpoint ≡ None
        by_test true none = refl
        by_test false none = before none

-- ---- Each of its entries and changes

-- a property of each entry and of each change of a table
pub record IsEach (P : Entry → Type 0) (Q : Change → Type 0) (table : TableState) : Type 0 where
  pub zap : AllByRecursion P table.zap
  pub flush : AllByRecursion Q table.flush
  pub active : AllByRecursion Q table.active

-- a sync keeps it, where an entry has it that its change has
module _ (P : Entry → Type 0) (Q : Change → Type 0) (entry_of : (entry : Entry) → Q (changes.Entry entry) → P entry) where
  log_change_each : (table : TableState) (change : Change) → IsEach P Q table → Q change → IsEach P Q (log_change table change)
  log_change_each table change each here = record {
    zap = each.zap;
    flush = all_filter Q (λ c. not (key_eq (key_in c) (key_in change))) table.flush each.flush;
    active = all_put changes_put Q change table.active here each.active;
  }

  flush_entry_each : (zap : List Entry) (change : Change) → AllByRecursion P zap → Q change → AllByRecursion P (flush_entry zap change)
  flush_entry_each zap (changes.Entry entry) each here = by_count (nat_lt 0 entry.home.count)
    where
      by_count : (b : Bool) → AllByRecursion P (if b then set_entry entry zap else drop_entry entry.key zap)
      by_count true = all_put entries_put P entry zap (entry_of entry here) each
      by_count false = all_filter P (λ e. not (key_eq e.key entry.key)) zap each
  flush_entry_each zap (changes.Gone key) each here = all_filter P (λ e. not (key_eq e.key key)) zap each

  flushed_each : (limit : ℕ) (table : TableState) → IsEach P Q table → IsEach P Q (flushed limit table)
  flushed_each limit table each = record {
    zap = fold_keeps (AllByRecursion P) Q flush_entry flush_entry_each (take limit table.flush) table.zap each.zap
        (all_take Q limit table.flush each.flush);
    flush = all_drop Q limit table.flush each.flush;
    active = each.active;
  }

  swapped_each : (table : TableState) → IsEach P Q table → IsEach P Q (swapped table)
  swapped_each table each = by_due (is_due (aged table))
    where
      by_due : (b : Bool) → IsEach P Q
          (if b then record table { flush = table.active; active = []; age = 0; checkpoint = None } else aged table)
      by_due true = record { zap = each.zap; flush = each.active; active = tt }
      by_due false = record { zap = each.zap; flush = each.flush; active = each.active }

  pub sync_each : (log : List Change) (table : TableState) → IsEach P Q table → AllByRecursion Q log → IsEach P Q (sync_table log table)
  sync_each log table each all =
      swapped_each (flushed (flush_limit table) (logged log table))
      (flushed_each (flush_limit table) (logged log table) (fold_keeps (IsEach P Q) Q log_change log_change_each log table each all))
