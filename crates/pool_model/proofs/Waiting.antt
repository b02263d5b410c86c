-- The homes that wait, which keep their places with no pointer counted: they are the search's homes of count 0, and no others.
use Rattle.std.proofs.Common.{◌≡◌, true, ◌==◌, List, Option, Some, None, find, refl, sym, ap, ◌∙◌, eq-eqb}
use Rattle.std.specs.List.{AllByRecursion}
use Rattle.std.specs.Option.{option_map}
use Rattle.std.specs.Ordering.{is_lt}
use Rattle.std.proofs.lemmas.Bool.{eqb-true}
use Rattle.ddt_entry.specs.Keys.{key_cmp, key_eq}
use Rattle.ddt_entry.specs.declared.key.Key.{Key}
use Rattle.ddt_entry.specs.declared.entry.Home.{Home}
use Rattle.ddt_entry.specs.declared.entry.Entry.{Entry}
use Rattle.ddt_entry.specs.declared.entry.Change.{Change}
use Rattle.ddt_entry.proofs.KeyLaws.{key_eq-true}
use Rattle.pool_model.specs.Table.{TableState, found, sync_table, entries_found, waiting_in, AreRising, IsTable, AreChangesRising}
use Rattle.pool_model.proofs.Lists.{all_from, all_each, all_passed, pairs_filter}
use Rattle.pool_model.specs.Homes.{found_with}
use Rattle.pool_model.proofs.Lookups.{found_has, find-filter}
use Rattle.pool_model.proofs.Finding.{found-is, rising_found, each_found}
use Rattle.pool_model.proofs.Synced.{found-synced, there_stays}
use Rattle.pool_model.proofs.Syncing.{sync_keeps}

abbrev pub entry_of : Key → Home → Entry
entry_of key home = record { key = key; home = home }

same_entry : (key other : Key) (home second : Home) → key ≡ other → home ≡ second → entry_of key home ≡ entry_of other second
same_entry key other home second one two = cc

-- an entry that is found with this home is of this key and home
found_entry : (key : Key) (home : Home) (entries : List Entry)
    → option_map (λ (e : Entry). e.home) (find (λ (e : Entry). key_eq e.key key) entries) ≡ Some home
    → find (λ (e : Entry). key_eq e.key key) entries ≡ Some (entry_of key home)
found_entry key home entries there = by_entry (find (λ (e : Entry). key_eq e.key key) entries) refl there
  where
    by_entry : (o : Option Entry) → find (λ (e : Entry). key_eq e.key key) entries ≡ o → option_map (λ (e : Entry). e.home) o ≡ Some home
        → o ≡ Some (entry_of key home)
    by_entry None is there = absurd (cc there)
    by_entry (Some e) is there =
        let has = found_has (λ _. Unit {0}) (λ (x : Entry). key_eq x.key key) entries e is (all_each (λ _. Unit {0}) (λ _. tt) entries) in
        let same : e.home ≡ home = cc in
        ap (λ (x : Entry). Some x) (same_entry e.key key e.home home (key_eq-true e.key key has.0) same)

-- a key's home that waits is in the list of those that do
pub found_waiting : (table : TableState) (key : Key) (home : Home) → IsTable table → found table key ≡ Some home → home.count ≡ 0
    → find (λ (e : Entry). key_eq e.key key) (waiting_in table) ≡ Some (entry_of key home)
found_waiting table key home is there none =
    find-filter (λ (e : Entry). key_eq e.key key) (λ (e : Entry). e.home.count == 0) (entries_found table) (entry_of key home)
    (found_entry key home (entries_found table) (sym (found-is table key is) ∙ there)) (eq-eqb home.count 0 none)

-- so what holds of each that waits holds of it
pub waiting_has : (P : Entry → Type 0) (table : TableState) (key : Key) (home : Home) → IsTable table → found table key ≡ Some home
    → home.count ≡ 0 → AllByRecursion P (waiting_in table) → P (entry_of key home)
waiting_has P table key home is there none all =
    (found_has P (λ (e : Entry). key_eq e.key key) (waiting_in table) (entry_of key home)
    (found_waiting table key home is there none) all).1

-- an entry's home is the one that the search finds, and no pointer is counted at it
abbrev pub Waits : TableState → Entry → Type 0
Waits table entry = (found table entry.key ≡ Some entry.home) × (entry.home.count ≡ 0)

-- each that waits is found
pub waiting_found : (table : TableState) → IsTable table → AllByRecursion (Waits table) (waiting_in table)
waiting_found table is =
    all_passed (λ (e : Entry). found table e.key ≡ Some e.home) (Waits table) (λ e. e.home.count == 0)
    (λ e none there. (there, eqb-true e.home.count 0 none)) (entries_found table) (each_found table is)

-- and no two are of one key
pub waiting_rising : (table : TableState) → IsTable table → AreRising (waiting_in table)
waiting_rising table is =
    pairs_filter (λ (a b : Entry). is_lt (key_cmp a.key b.key) ≡ true) (λ e. e.home.count == 0) (entries_found table)
    (rising_found table is)

-- the same of the homes with a group's changes
abbrev pub WaitsWith : List Change → TableState → Entry → Type 0
WaitsWith changes table entry = (found_with changes table entry.key ≡ Some entry.home) × (entry.home.count ≡ 0)

-- each that waits after the sync waited before it, or a change left it so
pub waiting_synced : (changes : List Change) (table : TableState) → IsTable table → AreChangesRising changes
    → AllByRecursion (WaitsWith changes table) (waiting_in (sync_table changes table))
waiting_synced changes table is rising =
    all_from (Waits (sync_table changes table)) (WaitsWith changes table)
    (λ e waits. (
      there_stays (found_with changes table e.key) (found (sync_table changes table) e.key) e.home
          (found-synced changes table e.key is rising) waits.0,
      waits.1,
    ))
    (waiting_in (sync_table changes table)) (waiting_found (sync_table changes table) (sync_keeps changes table is))
