-- The counted homes of a table as one list: a group's changes come to it one after another, as flushed changes come to the stored homes.
use Rattle.std.proofs.Common.{◌≡◌, Bool, true, false, cond, not, List, [], ◌∷◌, find, filter, Option, Some, None, refl, sym, ap, ◌∙◌}
use Rattle.std.specs.Prelude.{fold, nat_lt, if◌then◌else◌}
use Rattle.std.specs.List.{AllByRecursion}
use Rattle.std.specs.Option.{option_map}
use Rattle.std.specs.Ordering.{is_lt, ordering_reverse}
use Rattle.std.specs.declared.cmp.Ordering.{Ordering}
use Rattle.std.specs.declared.cmp.Ordering.TheVariants.{Less, Equal, Greater}
use Rattle.ddt_entry.specs.Keys.{key_cmp, key_eq}
use Rattle.ddt_entry.specs.Changes.{key_in}
use Rattle.ddt_entry.specs.declared.key.Key.{Key}
use Rattle.ddt_entry.specs.declared.entry.Home.{Home}
use Rattle.ddt_entry.specs.declared.entry.Entry.{Entry}
use Rattle.ddt_entry.specs.declared.entry.Change.{Change}
use Rattle.ddt_entry.specs.declared.entry.Change.TheVariants as changes
use Rattle.ddt_entry.proofs.KeyLaws.{key_cmp_total, exact_keys, key_eq-same}
use Rattle.pool_model.specs.Table.{TableState, home_in, entry_at, found, counted, entries_found, counted_homes, set_entry, drop_entry, flush_entry, log_change, logged, flushed, flush_limit, sync_table, AreRising, IsTable}
use Rattle.pool_model.proofs.Lists.{all_from, pairs_filter}
use Rattle.pool_model.proofs.Sorted.{less_of, rising_put}
use Rattle.pool_model.proofs.TablePuts.{entries_put}
use Rattle.pool_model.proofs.Lookups.{at-above}
use Rattle.pool_model.proofs.Finding.{keys_same, found-is, rising_found}
use Rattle.pool_model.proofs.Logging.{found-log_change}
use Rattle.pool_model.proofs.Syncing.{logged_keeps, sync_keeps}
use Rattle.pool_model.proofs.Synced.{entry_at-flush_entry, found-flushed, found-swapped, counted_stays}

-- ---- Lists that have the same homes

abbrev EntryBelow : Entry → Entry → Type 0
EntryBelow a b = is_lt (key_cmp a.key b.key) ≡ true

abbrev home_of : Entry → Home
home_of e = e.home

abbrev has_key : Key → Entry → Bool
has_key key e = key_eq e.key key

-- a key is not found above itself
none_above : (key : Key) (x : Entry) (xs : List Entry) → key_eq x.key key ≡ true → AllByRecursion (EntryBelow x) xs
    → entry_at key xs ≡ None
none_above key x xs here above = ap (option_map home_of) (at-above keys_same entries_put key x xs here above)

first_at : (x : Entry) (xs : List Entry) → entry_at x.key (x ∷ xs) ≡ Some x.home
first_at x xs = ap (λ b. option_map home_of (cond b (Some x) (find (has_key x.key) xs))) (key_eq-same x.key)

pub below_than : (x y z : Entry) → EntryBelow x y → EntryBelow y z → EntryBelow x z
below_than x y z one other =
    ap is_lt (key_cmp_total.trans x.key y.key z.key (less_of (key_cmp x.key y.key) one) (less_of (key_cmp y.key z.key) other))

-- an entry that is below the first of a rising list isn't found there
never_at : (x y : Entry) (xs ys : List Entry) → AreRising (y ∷ ys) → EntryBelow x y
    → entry_at x.key (x ∷ xs) ≡ entry_at x.key (y ∷ ys) → ⊥
never_at x y xs ys rising below same =
    let none : entry_at x.key (y ∷ ys) ≡ None = none_above x.key x (y ∷ ys) (key_eq-same x.key)
    (below, all_from (EntryBelow y) (EntryBelow x) (λ z above. below_than x y z below above) ys rising.0) in
    let has : Some x.home ≡ None = sym (first_at x xs) ∙ same ∙ none in
    cc has

first_key : (x y : Entry) (xs ys : List Entry) → AreRising (x ∷ xs) → AreRising (y ∷ ys)
    → ((key : Key) → entry_at key (x ∷ xs) ≡ entry_at key (y ∷ ys)) → x.key ≡ y.key
first_key x y xs ys one other same = by_order (key_cmp x.key y.key) refl
  where
    by_order : (o : Ordering) → key_cmp x.key y.key ≡ o → x.key ≡ y.key
    by_order Less said = absurd (never_at x y xs ys other (ap is_lt said) (same x.key))
    by_order Equal said = exact_keys x.key y.key said
    by_order Greater said =
        absurd (never_at y x ys xs one (ap is_lt (key_cmp_total.antisymm y.key x.key ∙ ap ordering_reverse said)) (sym (same y.key)))

same_entry : (x y : Entry) → x.key ≡ y.key → Some x.home ≡ Some y.home → x ≡ y
same_entry x y keys found_homes = let homes : x.home ≡ y.home = cc found_homes in λ i. record { key = keys i; home = homes i }

rest_at : (x y : Entry) (key : Key) (xs ys : List Entry) → x.key ≡ y.key → AreRising (x ∷ xs) → AreRising (y ∷ ys)
    → entry_at key (x ∷ xs) ≡ entry_at key (y ∷ ys) → entry_at key xs ≡ entry_at key ys
rest_at x y key xs ys first one other same =
    by_tests (key_eq x.key key) (key_eq y.key key) refl refl (ap (λ k. key_eq k key) first) same
  where
    by_tests : (b d : Bool) → key_eq x.key key ≡ b → key_eq y.key key ≡ d → b ≡ d
        → option_map home_of (cond b (Some x) (find (has_key key) xs)) ≡ option_map home_of (cond d (Some y) (find (has_key key) ys))
        → entry_at key xs ≡ entry_at key ys
    by_tests true d here there equal either = none_above key x xs here one.0 ∙ sym (none_above key y ys (there ∙ sym equal) other.0)
    by_tests false true here there equal either = absurd (cc equal)
    by_tests false false here there equal either = either

pub same_entries : (xs ys : List Entry) → AreRising xs → AreRising ys → ((key : Key) → entry_at key xs ≡ entry_at key ys) → xs ≡ ys
same_entries [] [] one other same = refl
same_entries [] (y ∷ ys) one other same = absurd (let none : None ≡ Some y.home = same y.key ∙ first_at y ys in cc none)
same_entries (x ∷ xs) [] one other same = absurd (let none : Some x.home ≡ None = sym (first_at x xs) ∙ same x.key in cc none)
same_entries (x ∷ xs) (y ∷ ys) one other same =
    let first : x.key ≡ y.key = first_key x y xs ys one other same in
    let homes : Some x.home ≡ Some y.home =
    sym (first_at x xs) ∙ same x.key ∙ ap (λ k. entry_at k (y ∷ ys)) first ∙ first_at y ys in
    ap (λ e. e ∷ xs) (same_entry x y first homes)
    ∙ ap (λ es. y ∷ es) (same_entries xs ys one.1 other.1 (λ key. rest_at x y key xs ys first one other (same key)))

-- ---- The counted homes

abbrev is_counted : Entry → Bool
is_counted e = nat_lt 0 e.home.count

counted_cons : (key : Key) (e : Entry) (entries : List Entry) → AllByRecursion (EntryBelow e) entries
    → entry_at key (filter is_counted entries) ≡ counted (entry_at key entries)
    → (b c : Bool) → key_eq e.key key ≡ b → is_counted e ≡ c
    → entry_at key (cond c (e ∷ filter is_counted entries) (filter is_counted entries))
    ≡ counted (option_map home_of (cond b (Some e) (find (has_key key) entries)))
counted_cons key e entries above rest true true here counts =
    ap (λ d. option_map home_of (cond d (Some e) (find (has_key key) (filter is_counted entries)))) here
    ∙ sym (ap (λ d. if d then Some e.home else None) counts)
counted_cons key e entries above rest true false here counts =
    rest ∙ ap counted (none_above key e entries here above) ∙ sym (ap (λ d. if d then Some e.home else None) counts)
counted_cons key e entries above rest false true here counts =
    ap (λ d. option_map home_of (cond d (Some e) (find (has_key key) (filter is_counted entries)))) here ∙ rest
counted_cons key e entries above rest false false here counts = rest

entry_at-counted : (key : Key) (entries : List Entry) → AreRising entries
    → entry_at key (filter is_counted entries) ≡ counted (entry_at key entries)
entry_at-counted key [] rising = refl
entry_at-counted key (e ∷ entries) rising =
    counted_cons key e entries rising.0 (entry_at-counted key entries rising.1) (key_eq e.key key) (is_counted e) refl refl

-- the list of the counted homes has the home of each key, as far as it is counted
pub counted_at : (table : TableState) (key : Key) → IsTable table → entry_at key (counted_homes table) ≡ counted (found table key)
counted_at table key is = entry_at-counted key (entries_found table) (rising_found table is) ∙ ap counted (sym (found-is table key is))

pub rising_counted : (table : TableState) → IsTable table → AreRising (counted_homes table)
rising_counted table is = pairs_filter EntryBelow is_counted (entries_found table) (rising_found table is)

rising-flush_entry : (entries : List Entry) (change : Change) → AreRising entries → AreRising (flush_entry entries change)
rising-flush_entry entries (changes.Entry entry) rising = by_count (is_counted entry)
  where
    by_count : (b : Bool) → AreRising (if b then set_entry entry entries else drop_entry entry.key entries)
    by_count true = rising_put entries_put entry entries rising
    by_count false = pairs_filter EntryBelow (λ e. not (key_eq e.key entry.key)) entries rising
rising-flush_entry entries (changes.Gone key) rising = pairs_filter EntryBelow (λ e. not (key_eq e.key key)) entries rising

-- ---- A group's changes

counted_cond : (b : Bool) (one other : Option Home) → counted (cond b one other) ≡ cond b (counted one) (counted other)
counted_cond true one other = refl
counted_cond false one other = refl

-- a change that is logged comes to the counted homes
pub counted-log_change : (table : TableState) (change : Change) → IsTable table
    → counted_homes (log_change table change) ≡ flush_entry (counted_homes table) change
counted-log_change table change is =
    same_entries (counted_homes (log_change table change)) (flush_entry (counted_homes table) change)
    (rising_counted (log_change table change) next) (rising-flush_entry (counted_homes table) change (rising_counted table is))
    (λ key. counted_at (log_change table change) key next ∙ ap counted (found-log_change key table change)
    ∙ counted_cond (key_eq (key_in change) key) (home_in change) (found table key)
    ∙ ap (cond (key_eq (key_in change) key) (counted (home_in change))) (sym (counted_at table key is))
    ∙ sym (entry_at-flush_entry key (counted_homes table) change))
  where
    next : IsTable (log_change table change)
    next = logged_keeps (change ∷ []) table is

-- so do all of them
pub counted-logged : (log : List Change) (table : TableState) → IsTable table
    → counted_homes (logged log table) ≡ fold flush_entry (counted_homes table) log
counted-logged [] table is = refl
counted-logged (change ∷ log) table is =
    counted-logged log (log_change table change) (logged_keeps (change ∷ []) table is)
    ∙ ap (λ homes. fold flush_entry homes log) (counted-log_change table change is)

-- and neither a flush nor a swap changes the counted homes
pub counted-synced : (log : List Change) (table : TableState) → IsTable table
    → counted_homes (sync_table log table) ≡ fold flush_entry (counted_homes table) log
counted-synced log table is =
    same_entries (counted_homes (sync_table log table)) (counted_homes middle)
    (rising_counted (sync_table log table) (sync_keeps log table is)) (rising_counted middle there)
    (λ key. counted_at (sync_table log table) key (sync_keeps log table is)
    ∙ ap counted (found-swapped (flushed (flush_limit table) middle) key)
    ∙ counted_stays (found middle key) (found (flushed (flush_limit table) middle) key)
    (found-flushed (flush_limit table) middle key there.flush_rising)
    ∙ sym (counted_at middle key there))
    ∙ counted-logged log table is
  where
    middle : TableState
    middle = logged log table

    there : IsTable middle
    there = logged_keeps log table is
