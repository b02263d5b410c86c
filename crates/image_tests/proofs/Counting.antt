-- A home that a table finds after a group is a change's, or was found before and isn't changed, so it counts no more pointers than these do.
use Rattle.std.proofs.Common.{◌≡◌, ◌∙◌, ℕ, ◌≤◌, true, List, Option, Some, None, find, refl, sym, subst, ap}
use Rattle.std.specs.Option.{option_map}
use Rattle.std.specs.List.{AllByRecursion}
use Rattle.ddt_entry.specs.Changes.{key_in}
use Rattle.ddt_entry.specs.Keys.{key_eq}
use Rattle.ddt_entry.proofs.KeyLaws.{key_eq-true}
use Rattle.ddt_entry.specs.declared.key.Key.{Key}
use Rattle.ddt_entry.specs.declared.entry.Home.{Home}
use Rattle.ddt_entry.specs.declared.entry.Entry.{Entry}
use Rattle.ddt_entry.specs.declared.entry.Change.{Change}
use Rattle.ddt_entry.specs.declared.entry.Change.TheVariants as changes
use Rattle.pool_model.specs.Homes.{found_with}
use Rattle.pool_model.specs.Table.{TableState, IsTable, AreChangesRising, change_at, entry_at, entries_found, found, found_over, sync_table}
use Rattle.pool_model.proofs.Finding.{found-is}
use Rattle.pool_model.proofs.Lookups.{found_has}
use Rattle.pool_model.proofs.Synced.{found-synced, there_stays}
use Rattle.image_tests.specs.Counts.{LeavesAtMost, StaysAtMost}

same_home : (most : ℕ) (h home : Home) → h.count ≤ most → Some h ≡ Some home → home.count ≤ most
same_home most h home few same = let one : h ≡ home = cc same in subst (λ (x : Home). x.count ≤ most) one few

module _ (most : ℕ) (log : List Change) (key : Key) where
  by_entry : (entries : List Entry) (o : Option Entry) → find (λ (e : Entry). key_eq e.key key) entries ≡ o
      → AllByRecursion (StaysAtMost most log) entries → change_at key log ≡ None → (home : Home)
      → option_map (λ (e : Entry). e.home) o ≡ Some home → home.count ≤ most
  by_entry entries None is all none home there = absurd (cc there)
  by_entry entries (Some entry) is all none home there =
      let has = found_has (StaysAtMost most log) (λ (e : Entry). key_eq e.key key) entries entry is all in
      same_home most entry.home home
      (has.1 (ap (λ (k : Key). change_at k log) (key_eq-true entry.key key has.0) ∙ none)) there

  by_change : (below : Option Home) (o : Option Change) → (o ≡ None → (home : Home) → below ≡ Some home → home.count ≤ most)
      → ((change : Change) → o ≡ Some change → LeavesAtMost most change) → (home : Home) → found_over below o ≡ Some home
      → home.count ≤ most
  by_change below None stays each home is = stays refl home is
  by_change below (Some (changes.Entry entry)) stays each home is = same_home most entry.home home (each (changes.Entry entry) refl) is
  by_change below (Some (changes.Gone gone)) stays each home is = absurd (cc is)

  pub found_counts : (table : TableState) → IsTable table → AreChangesRising log
      → AllByRecursion (StaysAtMost most log) (entries_found table) → AllByRecursion (LeavesAtMost most) log
      → (home : Home) → found (sync_table log table) key ≡ Some home → home.count ≤ most
  found_counts table sorted rising stay leave home there =
      by_change (found table key) (change_at key log)
      (λ none h is. by_entry (entries_found table) (find (λ (e : Entry). key_eq e.key key) (entries_found table)) refl stay none h
      (sym (found-is table key sorted) ∙ is))
      (λ change is. (found_has (LeavesAtMost most) (λ (c : Change). key_eq (key_in c) key) log change is leave).1)
      home
      (there_stays (found_with log table key) (found (sync_table log table) key) home (found-synced log table key sorted rising) there)
