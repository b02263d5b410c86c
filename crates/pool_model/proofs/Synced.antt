-- What is found after a group's sync: the home with the group's changes, unless it was flushed away with no pointer counted.
use Rattle.std.proofs.Common.{◌≡◌, ℕ, Bool, true, false, cond, List, [], ◌∷◌, ◌++◌, length, take, drop, take-append-drop, Option, Some, None, inl, inr, ⊎_elim, refl, sym, ap, subst, ◌∙◌, arith}
use Rattle.std.specs.Prelude.{fold, nat_lt, ◌&&◌, ◌||◌, ◌==◌, nat_le, if◌then◌else◌}
use Rattle.std.specs.List.{AllByRecursion}
use Rattle.std.specs.Option.{option_or}
use Rattle.std.specs.Ordering.{is_lt}
use Rattle.std.proofs.lemmas.Bool.{and_parts, eqb-true}
use Rattle.std.proofs.lemmas.Bool.Decides.{nat_tests}
use Rattle.std.proofs.lemmas.List.Folds.{find-append}
use Rattle.ddt_entry.specs.Keys.{key_cmp, key_eq}
use Rattle.ddt_entry.specs.Changes.{key_in}
use Rattle.ddt_entry.specs.declared.key.Key.{Key}
use Rattle.ddt_entry.specs.declared.entry.Home.{Home}
use Rattle.ddt_entry.specs.declared.entry.Entry.{Entry}
use Rattle.ddt_entry.specs.declared.entry.Change.{Change}
use Rattle.ddt_entry.specs.declared.entry.Change.TheVariants as changes
use Rattle.pool_model.specs.Table.{TableState, home_in, entry_at, change_at, found_over, found, set_entry, drop_entry, flush_entry, logged, flushed, flush_limit, swap_keys, swap_age, is_due, aged, swapped, sync_table, counted, IsTable, AreChangesRising}
use Rattle.pool_model.proofs.Lists.{pairs_front, all_behind}
use Rattle.pool_model.proofs.TablePuts.{changes_put}
use Rattle.pool_model.specs.Homes.{found_with, StaysOrGoes}
use Rattle.pool_model.proofs.Lookups.{at-above, found_has}
use Rattle.pool_model.proofs.Finding.{keys_same, entry_at-set, entry_at-drop, laid, folded}
use Rattle.pool_model.proofs.Logging.{found-logged}
use Rattle.pool_model.proofs.Syncing.{logged_keeps}

-- ---- Flushing

-- what a flushed change gives its key
abbrev flushed_home : Change → Option Home
flushed_home change = counted (home_in change)

pub entry_at-flush_entry : (key : Key) (entries : List Entry) (change : Change)
    → entry_at key (flush_entry entries change) ≡ cond (key_eq (key_in change) key) (flushed_home change) (entry_at key entries)
entry_at-flush_entry key entries (changes.Entry entry) = by_count (nat_lt 0 entry.home.count)
  where
    by_count : (b : Bool) → entry_at key (if b then set_entry entry entries else drop_entry entry.key entries) ≡ cond
        (key_eq entry.key key) (if b then Some entry.home else None) (entry_at key entries)
    by_count true = entry_at-set key entry entries
    by_count false = entry_at-drop key entry.key entries
entry_at-flush_entry key entries (changes.Gone gone) = entry_at-drop key gone entries

abbrev ChangeBelow : Change → Change → Type 0
ChangeBelow a b = is_lt (key_cmp (key_in a) (key_in b)) ≡ true

-- a key that is in the front of a sorted log is not behind it
front_only : (key : Key) (left rest : List Change) (change : Change) → AreChangesRising (left ++ rest) → change_at key left ≡ Some change
    → change_at key rest ≡ None
front_only key left rest change rising there =
    let has = found_has (λ c. AllByRecursion (ChangeBelow c) rest) (λ c. key_eq (key_in c) key) left change there
    (all_behind ChangeBelow left rest rising) in
    at-above keys_same changes_put key change rest has.0 has.1

-- where the front of the flushing log comes to the stored table
by_logs : (zap : Option Home) (left rest active : Option Change) → ((change : Change) → left ≡ Some change → rest ≡ None)
    → StaysOrGoes (found_over (found_over zap (option_or left rest)) active)
    (found_over (found_over (laid flushed_home zap left) rest) active)
by_logs zap None rest active apart = inl refl
by_logs zap (Some change) (Some other) active apart = absurd (let none : Some other ≡ None = apart change refl in cc)
by_logs zap (Some change) None (Some last) apart = inl refl
by_logs zap (Some change) None None apart = by_home (home_in change)
  where
    by_count : (home : Home) (b : Bool) → nat_lt 0 home.count ≡ b → StaysOrGoes (Some home) (if b then Some home else None)
    by_count home true some = inl refl
    by_count home false none = inr (home, refl, grind (arith, nat_tests), refl)

    by_home : (o : Option Home) → StaysOrGoes o (counted o)
    by_home None = inl refl
    by_home (Some home) = by_count home (nat_lt 0 home.count) refl

module _ (limit : ℕ) (table : TableState) (key : Key) (rising : AreChangesRising table.flush) where
  abbrev left : List Change
  left = take limit table.flush

  abbrev rest : List Change
  rest = drop limit table.flush

  abbrev zap : Option Home
  zap = entry_at key table.zap

  abbrev active : Option Change
  active = change_at key table.active

  whole : left ++ rest ≡ table.flush
  whole = take-append-drop limit table.flush

  split : AreChangesRising (left ++ rest)
  split = subst AreChangesRising (sym whole) rising

  stored : entry_at key (fold flush_entry table.zap left) ≡ laid flushed_home zap (change_at key left)
  stored = folded key flush_entry (entry_at key) flushed_home (entry_at-flush_entry key) left table.zap
      (pairs_front ChangeBelow left rest split)

  -- changes that are flushed keep their homes, or were those of no pointer
  pub found-flushed : StaysOrGoes (found table key) (found (flushed limit table) key)
  found-flushed =
      subst (λ (log : List Change). StaysOrGoes (found_over (found_over zap (change_at key log)) active)
      (found (flushed limit table) key)) whole
      (subst (λ o. StaysOrGoes (found_over (found_over zap o) active) (found (flushed limit table) key))
      (sym (find-append (λ c. key_eq (key_in c) key) left rest))
      (subst (λ o. StaysOrGoes (found_over (found_over zap (option_or (change_at key left) (change_at key rest))) active)
      (found_over (found_over o (change_at key rest)) active)) (sym stored)
      (by_logs zap (change_at key left) (change_at key rest) active (λ change there. front_only key left rest change split there))))

-- ---- Swapping

none_of_length : (log : List Change) → (length log == 0) ≡ true → log ≡ []
none_of_length [] none = refl
none_of_length (change ∷ log) none = let zero_long : length (change ∷ log) ≡ 0 = eqb-true (length (change ∷ log)) 0 none in
    absurd (omega arith)

-- the active log takes the place of a flushing log that has nothing
pub found-swapped : (table : TableState) (key : Key) → found (swapped table) key ≡ found table key
found-swapped table key = by_due (is_due (aged table)) refl
  where
    by_due : (b : Bool) → is_due (aged table) ≡ b
        → found (if b then record table { flush = table.active; active = []; age = 0; checkpoint = None } else aged table) key
        ≡ found table key
    by_due true due =
        let parts = and_parts ((length table.flush == 0) && nat_lt 0 (length table.active))
        (nat_le swap_keys (length table.active) || nat_le swap_age (aged table).age) due in
        let none = none_of_length table.flush (and_parts (length table.flush == 0) (nat_lt 0 (length table.active)) parts.0).0 in
        sym (ap (λ (log : List Change). found_over (found_over (entry_at key table.zap) (change_at key log))
        (change_at key table.active)) none)
    by_due false due = refl

-- ---- The whole sync

-- what is found once the changes are logged, in whatever order they stand
pub found-logged-synced : (changes : List Change) (table : TableState) (key : Key) → IsTable table
    → StaysOrGoes (found (logged changes table) key) (found (sync_table changes table) key)
found-logged-synced changes table key is =
    subst (StaysOrGoes (found (logged changes table) key))
    (sym (found-swapped (flushed (flush_limit table) (logged changes table)) key))
    (found-flushed (flush_limit table) (logged changes table) key (logged_keeps changes table is).flush_rising)

pub found-synced : (changes : List Change) (table : TableState) (key : Key) → IsTable table → AreChangesRising changes
    → StaysOrGoes (found_with changes table key) (found (sync_table changes table) key)
found-synced changes table key is rising =
    subst (λ o. StaysOrGoes o (found (sync_table changes table) key)) (found-logged changes table key rising)
    (found-logged-synced changes table key is)

-- a home with no pointers counts for nothing, there or gone
pub counted_stays : (before now : Option Home) → StaysOrGoes before now → counted now ≡ counted before
counted_stays before now stays =
    ⊎_elim (λ same. ap counted same)
    (λ went. ap counted went.3 ∙ sym (ap counted went.1 ∙ ap (λ n. if nat_lt 0 n then Some went.0 else None) went.2)) stays

-- a home that is there after the sync is the one with the group's changes
pub there_stays : (before now : Option Home) (home : Home) → StaysOrGoes before now → now ≡ Some home → before ≡ Some home
there_stays before now home stays there = ⊎_elim (λ same. sym same ∙ there) (λ went. absurd (let gone : now ≡ None = went.3 in cc)) stays
