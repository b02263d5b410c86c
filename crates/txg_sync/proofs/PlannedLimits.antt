-- What the seal of a group asks of a table: few homes are found and each count is small, by the table's ranges and pages.
use Rattle.std.proofs.Common.{◌≡◌, ℕ, ◌+◌, ◌^◌, ◌≤◌, true, cond, not, List, [], ◌∷◌, All, length, fold, arith}
use Rattle.std.specs.Prelude.{nat_lt, ◌==◌}
use Rattle.std.specs.List.{AllByRecursion}
use Rattle.std.proofs.lemmas.Bool.Decides.{nat_tests}
use Rattle.std.proofs.lemmas.List.Elements.{All-from_recursion}
use Rattle.ddt_entry.specs.Keys.{key_eq}
use Rattle.ddt_entry.specs.declared.entry.Entry.{Entry}
use Rattle.ddt_entry.specs.declared.entry.Change.{Change}
use Rattle.ddt_entry.specs.declared.entry.Change.TheVariants as changes
use Rattle.page_tree.specs.ChainWrites.{pages_for}
use Rattle.pool_model.specs.Table.{TableState, set_found, entries_found, IsTable}
use Rattle.table_state.specs.Flat.{IsWithin, IsChangeWithin}
use Rattle.table_state.specs.Tables.{IsTableWithin, unique_in, duplicate_in, table_pages}
use Rattle.pool_model.proofs.Lists.{all_from, all_filter, fold_keeps, length-filter-le}
use Rattle.pool_model.proofs.Sorted.{all_put, length-put}
use Rattle.pool_model.proofs.TablePuts.{entries_put}
use Rattle.pool_model.specs.Replaying.{LoggedTable, Replays}
use Rattle.table_state.proofs.PagesOf.{listed_fewer}

module _ (sectors group : ℕ) where
  -- a change in range leaves homes in range
  set_found_within : (entries : List Entry) (change : Change) → AllByRecursion (IsWithin sectors group) entries
      → IsChangeWithin sectors group change → AllByRecursion (IsWithin sectors group) (set_found entries change)
  set_found_within entries (changes.Entry entry) within here = all_put entries_put (IsWithin sectors group) entry entries here within
  set_found_within entries (changes.Gone key) within here = all_filter (IsWithin sectors group) (λ e. not (key_eq e.key key)) entries within

  -- the homes that a table in range finds are in range
  pub found_within : (table : TableState) → IsTableWithin sectors group table
      → AllByRecursion (IsWithin sectors group) (entries_found table)
  found_within table within =
      let flushing : AllByRecursion (IsWithin sectors group) (fold set_found table.zap table.flush) =
      fold_keeps (AllByRecursion (IsWithin sectors group))
      (IsChangeWithin sectors group) set_found set_found_within table.flush table.zap within.zap within.flush
      in
      fold_keeps (AllByRecursion (IsWithin sectors group)) (IsChangeWithin sectors group) set_found set_found_within table.active
      (fold set_found table.zap table.flush) flushing within.active

  -- so each count is small
  pub found_small : (table : TableState) → IsTableWithin sectors group table
      → All (λ entry. entry.home.count ≤ 1048576) (entries_found table)
  found_small table within =
      All-from_recursion (λ entry. entry.home.count ≤ 1048576) (entries_found table)
      (all_from (IsWithin sectors group) (λ entry. entry.home.count ≤ 1048576) (λ entry is. is.count) (entries_found table)
      (found_within table within))

-- ---- How many homes are found

length-set_found : (entries : List Entry) (change : Change) → length (set_found entries change) ≤ length entries + 1
length-set_found entries (changes.Entry entry) = length-put entries_put entry entries
length-set_found entries (changes.Gone key) = omega (arith, length-filter-le (λ (e : Entry). not (key_eq e.key key)) entries)

length-all_found : (log : List Change) (entries : List Entry) → length (fold set_found entries log) ≤ length entries + length log
length-all_found [] entries = omega arith
length-all_found (change ∷ log) entries = omega (arith, length-all_found log (set_found entries change), length-set_found entries change)

-- at most one for each stored home and each change in a log
pub length-found : (table : TableState) → length (entries_found table) ≤ length table.zap + length table.flush + length table.active
length-found table = omega
    (arith, length-all_found table.active (fold set_found table.zap table.flush), length-all_found table.flush table.zap)

-- a stored home that is counted is in one of the two classes
length-classes : (zap : List Entry) → AllByRecursion (λ entry. nat_lt 0 entry.home.count ≡ true) zap
    → length zap ≤ length (unique_in zap) + length (duplicate_in zap)
length-classes [] counted = omega arith
length-classes (entry ∷ zap) counted = by_count (length-classes zap counted.1) entry.home.count counted.0
  where
    by_count : length zap ≤ length (unique_in zap) + length (duplicate_in zap) → (count : ℕ) → nat_lt 0 count ≡ true
        → length (entry ∷ zap) ≤ length (cond (count == 1) (entry ∷ unique_in zap) (unique_in zap)) + length
        (cond (nat_lt 1 count) (entry ∷ duplicate_in zap) (duplicate_in zap))
    by_count rest count some = grind (arith, nat_tests)

-- the lists of a table are short where a disk holds the pages of its classes and of its logs
pub few_found : (kept : LoggedTable) → IsTable kept.table → Replays kept.table kept.logs → table_pages kept ≤ 1_000_000
    → length (entries_found kept.table) ≤ 2 ^ 40
few_found kept is replays fit =
    let fewer = listed_fewer kept.table kept.logs replays in
    in_all (length (entries_found kept.table)) (length kept.table.zap) (length kept.logs.active) (length kept.logs.flushing)
    (length (unique_in kept.table.zap)) (length (duplicate_in kept.table.zap))
    (omega (arith, length-found kept.table, fewer.0, fewer.1)) (length-classes kept.table.zap is.zap_counted) fit
  where
    in_all : (found zap active flushing unique duplicate : ℕ) → found ≤ zap + flushing + active → zap ≤ unique + duplicate
        → pages_for unique + pages_for duplicate + pages_for active + pages_for flushing ≤ 1_000_000 → found ≤ 2 ^ 40
    in_all found zap active flushing unique duplicate short classes fit = omega (arith, short, classes, fit)
