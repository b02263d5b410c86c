-- What a table's search finds of a key, step by step: after an entry is set or dropped, after a change, and after a whole log.
use Rattle.std.proofs.Common.{◌≡◌, Bool, true, false, cond, not, List, [], ◌∷◌, Option, Some, None, refl, sym, ap, ◌∙◌}
use Rattle.std.specs.Prelude.{fold}
use Rattle.std.specs.List.{AllByRecursion, find}
use Rattle.std.specs.Option.{option_map}
use Rattle.std.specs.Ordering.{is_lt}
use Rattle.ddt_entry.specs.Keys.{key_cmp, key_eq}
use Rattle.ddt_entry.specs.Changes.{key_in}
use Rattle.ddt_entry.specs.declared.key.Key.{Key}
use Rattle.ddt_entry.specs.declared.entry.Home.{Home}
use Rattle.ddt_entry.specs.declared.entry.Entry.{Entry}
use Rattle.ddt_entry.specs.declared.entry.Change.{Change}
use Rattle.ddt_entry.specs.declared.entry.Change.TheVariants as changes
use Rattle.ddt_entry.proofs.KeyLaws.{is_eq-key_cmp, key_eq-true, key_eq-same, key_eq-symm}
use Rattle.pool_model.specs.Table.{TableState, home_in, entry_at, change_at, found_over, found, set_entry, drop_entry, set_change, drop_change, set_found, entries_found, AreRising, AreChangesRising, IsTable}
use Rattle.pool_model.proofs.Lists.{all_from, pairs_filter}
use Rattle.pool_model.proofs.Sorted.{rising_put}
use Rattle.pool_model.proofs.TablePuts.{entries_put, changes_put}
use Rattle.pool_model.proofs.Lookups.{IsSame, at-put, at-dropped, at-above, each_at}

pub keys_same : IsSame key_cmp key_eq
keys_same = record { tells = is_eq-key_cmp; exact = key_eq-true; itself = key_eq-same; back = key_eq-symm }

-- ---- One step

pub change_at-set : (key : Key) (change : Change) (log : List Change)
    → change_at key (set_change change log) ≡ cond (key_eq (key_in change) key) (Some change) (change_at key log)
change_at-set key change log = at-put keys_same changes_put key change log

pub change_at-drop : (key gone : Key) (log : List Change)
    → change_at key (drop_change gone log) ≡ cond (key_eq gone key) None (change_at key log)
change_at-drop key gone log = at-dropped keys_same changes_put key gone log

home_cond : (b : Bool) (one other : Option Entry)
    → option_map (λ (e : Entry). e.home) (cond b one other) ≡ cond b (option_map (λ (e : Entry). e.home) one)
    (option_map (λ (e : Entry). e.home) other)
home_cond true one other = refl
home_cond false one other = refl

pub entry_at-set : (key : Key) (entry : Entry) (entries : List Entry)
    → entry_at key (set_entry entry entries) ≡ cond (key_eq entry.key key) (Some entry.home) (entry_at key entries)
entry_at-set key entry entries =
    ap (option_map (λ (e : Entry). e.home)) (at-put keys_same entries_put key entry entries)
    ∙ home_cond (key_eq entry.key key) (Some entry) (find (λ (e : Entry). key_eq e.key key) entries)

pub entry_at-drop : (key gone : Key) (entries : List Entry)
    → entry_at key (drop_entry gone entries) ≡ cond (key_eq gone key) None (entry_at key entries)
entry_at-drop key gone entries =
    ap (option_map (λ (e : Entry). e.home)) (at-dropped keys_same entries_put key gone entries)
    ∙ home_cond (key_eq gone key) None (find (λ (e : Entry). key_eq e.key key) entries)

entry_at-change : (key : Key) (entries : List Entry) (change : Change)
    → entry_at key (set_found entries change) ≡ cond (key_eq (key_in change) key) (home_in change) (entry_at key entries)
entry_at-change key entries (changes.Entry entry) = entry_at-set key entry entries
entry_at-change key entries (changes.Gone gone) = entry_at-drop key gone entries

-- ---- A whole log

-- what a change gives its key, or else what stands below it
abbrev pub laid : (Change → Option Home) → Option Home → Option Change → Option Home
laid gives below None = below
laid gives below (Some change) = gives change

pub laid-home_in : (below : Option Home) (change : Option Change) → laid home_in below change ≡ found_over below change
laid-home_in below None = refl
laid-home_in below (Some change) = refl

-- steps over a log that names each key once, of which each gives its change's key a home and leaves the others
pub folded : {S : Type 0} (key : Key) (step : S → Change → S) (home_at : S → Option Home) (gives : Change → Option Home)
    → ((state : S) (change : Change) → home_at (step state change) ≡ cond (key_eq (key_in change) key) (gives change) (home_at state))
    → (log : List Change) (state : S) → AreChangesRising log
    → home_at (fold step state log) ≡ laid gives (home_at state) (change_at key log)
folded key step home_at gives each [] state rising = refl
folded key step home_at gives each (change ∷ log) state rising =
    folded key step home_at gives each log (step state change) rising.1
    ∙ ap (λ o. laid gives o (change_at key log)) (each state change)
    ∙ by_test (key_eq (key_in change) key) refl
  where
    by_test : (b : Bool) → key_eq (key_in change) key ≡ b
        → laid gives (cond b (gives change) (home_at state)) (change_at key log) ≡ laid gives (home_at state)
        (cond b (Some change) (change_at key log))
    by_test true here = ap (laid gives (gives change)) (at-above keys_same changes_put key change log here rising.0)
    by_test false here = refl

entry_at-log : (key : Key) (log : List Change) (entries : List Entry) → AreChangesRising log
    → entry_at key (fold set_found entries log) ≡ found_over (entry_at key entries) (change_at key log)
entry_at-log key log entries rising =
    folded key set_found (entry_at key) home_in (entry_at-change key) log entries rising ∙ laid-home_in (entry_at key entries)
    (change_at key log)

-- the search finds what the list of all homes has
pub found-is : (table : TableState) (key : Key) → IsTable table → found table key ≡ entry_at key (entries_found table)
found-is table key is =
    sym (entry_at-log key table.active (fold set_found table.zap table.flush) is.active_rising
    ∙ ap (λ o. found_over o (change_at key table.active)) (entry_at-log key table.flush table.zap is.flush_rising))

rising_log : (log : List Change) (entries : List Entry) → AreRising entries → AreRising (fold set_found entries log)
rising_log [] entries rising = rising
rising_log (changes.Entry entry ∷ log) entries rising =
    rising_log log (set_entry entry entries) (rising_put entries_put entry entries rising)
rising_log (changes.Gone key ∷ log) entries rising =
    rising_log log (drop_entry key entries)
    (pairs_filter (λ (a b : Entry). is_lt (key_cmp a.key b.key) ≡ true) (λ entry. not (key_eq entry.key key)) entries rising)

-- that list rises by key
pub rising_found : (table : TableState) → IsTable table → AreRising (entries_found table)
rising_found table is = rising_log table.active (fold set_found table.zap table.flush) (rising_log table.flush table.zap is.zap_rising)

-- and each of its entries is what the search finds
pub each_found : (table : TableState) → IsTable table
    → AllByRecursion (λ entry. found table entry.key ≡ Some entry.home) (entries_found table)
each_found table is =
    all_from (λ (e : Entry). find (λ (x : Entry). key_eq x.key e.key) (entries_found table) ≡ Some e)
    (λ (e : Entry). found table e.key ≡ Some e.home)
    (λ e there. found-is table e.key is ∙ ap (option_map (λ (x : Entry). x.home)) there) (entries_found table)
    (each_at keys_same entries_put (entries_found table) (rising_found table is))
