-- A table that is read from an image is sorted and within its ranges, and the lists that a table is split into give it back.
use Rattle.std.proofs.Common.{◌≡◌, ℕ, ◌<◌, Bool, true, false, not, ◌&&◌, List, [], fold, Option, Some, None, option_map, refl, ap, ◌∙◌, arith, sym}
use Rattle.std.specs.Prelude.{nat_lt, ◌==◌}
use Rattle.std.specs.List.{AllByRecursion}
use Rattle.std.specs.Ordering.{is_lt}
use Rattle.std.proofs.lemmas.Bool.{and_parts, eqb-true, ltb-true, lt-ltb}
use Rattle.std.proofs.lemmas.Bool.Decides.{nat_tests}
use Rattle.ddt_entry.specs.Keys.{key_cmp, key_eq}
use Rattle.ddt_entry.specs.Changes.{key_in}
use Rattle.ddt_entry.specs.declared.key.Key.{Key}
use Rattle.ddt_entry.specs.declared.entry.Entry.{Entry}
use Rattle.ddt_entry.specs.declared.entry.Change.{Change}
use Rattle.ddt_entry.proofs.KeyLaws.{key_eq-symm}
use Rattle.uber_ring.specs.declared.seal.Seal.{Seal}
use Rattle.pool_model.specs.Table.{TableState, entry_at, change_at, set_entry, AreRising, is_past, IsTable}
use Rattle.pool_model.specs.Logs.{last_changes, is_missing, left_in, Logs}
use Rattle.pool_model.specs.Replaying.{LoggedTable, Replays}
use Rattle.table_state.specs.SealForms.{checkpoint_in}
use Rattle.table_state.specs.Flat.{Flat, HoldTogether, IsWithin, IsChangeWithin, table_in, logs_in}
use Rattle.table_state.specs.Tables.{IsTableWithin, unique_in, duplicate_in}
use Rattle.pool_model.proofs.Lists.{all_from, all_each, all_filter, all_tested, pairs_filter, pairs_from, classes_apart, none_found}
use Rattle.pool_model.proofs.Sorted.{rising_fold, all_fold, split_back}
use Rattle.pool_model.proofs.TablePuts.{entries_put, changes_put, apart_by_order}

missing_none : (o : Option Change) → is_missing o ≡ true → o ≡ None
missing_none None missing = refl
missing_none (Some change) missing = absurd (cc missing)

-- ---- What is read

module _ (seal : Seal) (flat : Flat) (whole : HoldTogether seal flat) where
  -- whether a change of the flushing log is still to be flushed
  abbrev is_left : Change → Bool
  is_left change = is_past (checkpoint_in seal) (key_in change) && is_missing (change_at (key_in change) (last_changes flat.active))

  -- the table of an image whose parts hold together is sorted
  pub is_table_in : IsTable (table_in seal flat)
  is_table_in = record {
    zap_rising = rising_fold entries_put flat.duplicate flat.unique whole.unique_rising;
    zap_counted =
        all_fold entries_put (λ entry. nat_lt 0 entry.home.count ≡ true) flat.duplicate flat.unique
        (all_from (λ entry. 1 < entry.home.count) (λ entry. nat_lt 0 entry.home.count ≡ true)
        (λ entry more. lt-ltb 0 entry.home.count (omega arith)) flat.duplicate whole.counted_more)
        (all_from (λ entry. entry.home.count ≡ 1) (λ entry. nat_lt 0 entry.home.count ≡ true)
        (λ entry once. lt-ltb 0 entry.home.count (omega arith)) flat.unique whole.counted_once);
    flush_rising = pairs_filter (λ (a b : Change). is_lt (key_cmp (key_in a) (key_in b)) ≡ true) is_left (last_changes flat.flushing)
        (rising_fold changes_put flat.flushing [] tt);
    active_rising = rising_fold changes_put flat.active [] tt;
    logs_apart =
        all_tested (λ change. change_at (key_in change) (last_changes flat.active) ≡ None) is_left
        (λ change left. missing_none (change_at (key_in change) (last_changes flat.active))
        (and_parts (is_past (checkpoint_in seal) (key_in change))
        (is_missing (change_at (key_in change) (last_changes flat.active))) left).1)
        (last_changes flat.flushing);
    past =
        all_tested (λ change. is_past (checkpoint_in seal) (key_in change) ≡ true) is_left
        (λ change left. (and_parts (is_past (checkpoint_in seal) (key_in change))
        (is_missing (change_at (key_in change) (last_changes flat.active))) left).0)
        (last_changes flat.flushing);
  }

  -- and its numbers are in their ranges
  pub table_in_within : IsTableWithin seal.sectors seal.group (table_in seal flat)
  table_in_within = record {
    zap = all_fold entries_put (IsWithin seal.sectors seal.group) flat.duplicate flat.unique whole.duplicate_within whole.unique_within;
    flush = all_filter (IsChangeWithin seal.sectors seal.group) is_left (last_changes flat.flushing)
        (all_fold changes_put (IsChangeWithin seal.sectors seal.group) flat.flushing [] whole.flushing_within tt);
    active = all_fold changes_put (IsChangeWithin seal.sectors seal.group) flat.active [] whole.active_within tt;
  }

-- ---- What is written

counted_more_or_once : (count : ℕ) → nat_lt 0 count ≡ true → nat_lt 1 count ≡ not (count == 1)
counted_more_or_once count counted = grind (arith, nat_tests)

-- a sorted table whose homes are counted comes back from its two classes
pub classes_back : (zap : List Entry) → AreRising zap → AllByRecursion (λ entry. nat_lt 0 entry.home.count ≡ true) zap
    → fold (λ entries entry. set_entry entry entries) (unique_in zap) (duplicate_in zap) ≡ zap
classes_back zap rising counted =
    split_back entries_put (λ entry. entry.home.count == 1) (λ entry. nat_lt 1 entry.home.count) zap
    (all_from (λ entry. nat_lt 0 entry.home.count ≡ true) (λ entry. nat_lt 1 entry.home.count ≡ not (entry.home.count == 1))
    (λ entry. counted_more_or_once entry.home.count) zap counted) rising

abbrev table_of : List Entry → List Change → List Change → ℕ → Option Key → TableState
table_of zap flush active age checkpoint = record { zap = zap; flush = flush; active = active; age = age; checkpoint = checkpoint }

same_table : (zap zap' : List Entry) (flush flush' active active' : List Change) (age age' : ℕ) (checkpoint checkpoint' : Option Key)
    → zap ≡ zap' → flush ≡ flush' → active ≡ active' → age ≡ age' → checkpoint ≡ checkpoint'
    → table_of zap flush active age checkpoint ≡ table_of zap' flush' active' age' checkpoint'
same_table zap zap' flush flush' active active' age age' checkpoint checkpoint' ez ef ea eg ec = cc

-- a sorted table comes back from an image that keeps its classes, and its logs as they were appended
pub table_back : (kept : LoggedTable) (seal : Seal) (flat : Flat) → IsTable kept.table → Replays kept.table kept.logs
    → flat.unique ≡ unique_in kept.table.zap → flat.duplicate ≡ duplicate_in kept.table.zap → logs_in flat ≡ kept.logs
    → seal.age ≡ kept.table.age → checkpoint_in seal ≡ kept.table.checkpoint → table_in seal flat ≡ kept.table
table_back kept seal flat is replays unique duplicate logs age checkpoint =
    same_table _ _ _ _ _ _ _ _ _ _
    (ap (λ (xs : List Entry). fold (λ entries entry. set_entry entry entries) xs flat.duplicate) unique
    ∙ ap (λ (xs : List Entry). fold (λ entries entry. set_entry entry entries) (unique_in kept.table.zap) xs) duplicate
    ∙ classes_back kept.table.zap is.zap_rising is.zap_counted)
    (ap (λ (c : Option Key). left_in c (last_changes flat.active) flat.flushing) checkpoint
    ∙ ap (λ (l : Logs). left_in kept.table.checkpoint (last_changes l.active) l.flushing) logs
    ∙ sym replays.flush)
    (ap (λ (l : Logs). last_changes l.active) logs ∙ sym replays.active)
    age checkpoint

-- ---- The two classes

pub unique_rises : (zap : List Entry) → AreRising zap → AreRising (unique_in zap)
unique_rises zap rising = pairs_filter (λ (a b : Entry). is_lt (key_cmp a.key b.key) ≡ true) (λ entry. entry.home.count == 1) zap rising

pub duplicate_rises : (zap : List Entry) → AreRising zap → AreRising (duplicate_in zap)
duplicate_rises zap rising = pairs_filter (λ (a b : Entry). is_lt (key_cmp a.key b.key) ≡ true)
    (λ entry. nat_lt 1 entry.home.count) zap rising

pub unique_counted : (zap : List Entry) → AllByRecursion (λ entry. entry.home.count ≡ 1) (unique_in zap)
unique_counted zap = all_tested (λ entry. entry.home.count ≡ 1) (λ entry. entry.home.count == 1)
    (λ entry once. eqb-true entry.home.count 1 once) zap

pub duplicate_counted : (zap : List Entry) → AllByRecursion (λ entry. 1 < entry.home.count) (duplicate_in zap)
duplicate_counted zap = all_tested (λ entry. 1 < entry.home.count) (λ entry. nat_lt 1 entry.home.count)
    (λ entry more. ltb-true 1 entry.home.count more) zap

pub unique_keeps : (P : Entry → Type 0) (zap : List Entry) → AllByRecursion P zap → AllByRecursion P (unique_in zap)
unique_keeps P zap all = all_filter P (λ entry. entry.home.count == 1) zap all

pub duplicate_keeps : (P : Entry → Type 0) (zap : List Entry) → AllByRecursion P zap → AllByRecursion P (duplicate_in zap)
duplicate_keeps P zap all = all_filter P (λ entry. nat_lt 1 entry.home.count) zap all

-- no key is in both classes
pub one_class : (zap : List Entry) → AreRising zap → AllByRecursion (λ entry. entry_at entry.key (duplicate_in zap) ≡ None) (unique_in zap)
one_class zap rising =
    all_from (λ entry. AllByRecursion (λ (other : Entry). key_eq other.key entry.key ≡ false) (duplicate_in zap))
    (λ entry. entry_at entry.key (duplicate_in zap) ≡ None)
    (λ entry apart. ap (option_map (λ (e : Entry). e.home))
    (none_found (λ (other : Entry). key_eq other.key entry.key) (duplicate_in zap) apart))
    (unique_in zap)
    (classes_apart (λ (a b : Entry). key_eq b.key a.key ≡ false) (λ a b apart. key_eq-symm a.key b.key ∙ apart)
    (λ entry. entry.home.count == 1) (λ entry. nat_lt 1 entry.home.count) zap
    (all_each (λ entry. (entry.home.count == 1) ≡ true → nat_lt 1 entry.home.count ≡ true → ⊥) (λ entry. never_both entry.home.count) zap)
    (pairs_from (λ (a b : Entry). is_lt (key_cmp a.key b.key) ≡ true) (λ (a b : Entry). key_eq b.key a.key ≡ false)
    (λ a b below. key_eq-symm b.key a.key ∙ apart_by_order a.key b.key below) zap rising))
  where
    never_both : (count : ℕ) → (count == 1) ≡ true → nat_lt 1 count ≡ true → ⊥
    never_both count once more = omega (arith, eqb-true count 1 once, ltb-true 1 count more)
