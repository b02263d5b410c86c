-- How much longer a sync makes the lists of a table, and how many pages more they take.
use Rattle.std.proofs.Common.{◌≡◌, ℕ, ◌+◌, ◌*◌, ◌≤◌, Bool, true, false, not, List, [], ◌∷◌, length, fold, take, length-take, filter, None, refl, sym, ap, subst, arith}
use Rattle.std.specs.Prelude.{nat_lt, ◌==◌, if◌then◌else◌}
use Rattle.ddt_entry.specs.Keys.{key_eq}
use Rattle.ddt_entry.specs.declared.entry.Entry.{Entry}
use Rattle.ddt_entry.specs.declared.entry.Change.{Change}
use Rattle.ddt_entry.specs.declared.entry.Change.TheVariants as changes
use Rattle.page_tree.specs.ChainWrites.{pages_for}
use Rattle.pool_model.specs.Table.{TableState, set_entry, drop_entry, log_change, logged, flush_entry, flushed, is_due, aged, swapped, flush_limit, sync_table}
use Rattle.table_state.specs.Tables.{unique_in, duplicate_in, table_pages}
use Rattle.pool_model.proofs.Lists.{passing_filter}
use Rattle.pool_model.proofs.Sorted.{passing_put}
use Rattle.pool_model.proofs.TablePuts.{entries_put}
use Rattle.pool_model.specs.Replaying.{LoggedTable, sync_logged}
use Rattle.pool_model.proofs.Replays.{logs_length}

-- ---- The stored table

-- the stored table changes in the second step alone
zap-swapped : (table : TableState) → (swapped table).zap ≡ table.zap
zap-swapped table = by_due (is_due (aged table))
  where
    by_due : (b : Bool) → (if b then record table
        { flush = table.active; active = []; age = 0; checkpoint = None } else aged table).zap ≡ table.zap
    by_due true = refl
    by_due false = refl

zap-logged : (log : List Change) (table : TableState) → (logged log table).zap ≡ table.zap
zap-logged [] table = refl
zap-logged (change ∷ log) table = zap-logged log (log_change table change)

module _ (test : Entry → Bool) where
  -- a flushed change adds at most one entry to those that pass a test
  passing_flush_entry : (zap : List Entry) (change : Change) → length (filter test (flush_entry zap change)) ≤ length (filter test zap) + 1
  passing_flush_entry zap (changes.Entry entry) = by_count (nat_lt 0 entry.home.count)
    where
      by_count : (b : Bool)
          → length (filter test (if b then set_entry entry zap else drop_entry entry.key zap)) ≤ length (filter test zap) + 1
      by_count true = passing_put entries_put test entry zap
      by_count false = omega (arith, passing_filter test (λ e. not (key_eq e.key entry.key)) zap)
  passing_flush_entry zap (changes.Gone key) = omega (arith, passing_filter test (λ e. not (key_eq e.key key)) zap)

  passing_fold : (log : List Change) (zap : List Entry)
      → length (filter test (fold flush_entry zap log)) ≤ length (filter test zap) + length log
  passing_fold [] zap = omega arith
  passing_fold (change ∷ log) zap = omega (arith, passing_fold log (flush_entry zap change), passing_flush_entry zap change)

  -- a sync adds at most as many entries as it flushes changes
  pub passing_sync : (log : List Change) (table : TableState)
      → length (filter test (sync_table log table).zap) ≤ length (filter test table.zap) + flush_limit table
  passing_sync log table =
      subst (λ (zap : List Entry). length (filter test zap) ≤ length (filter test table.zap) + flush_limit table)
      (sym (zap-swapped (flushed (flush_limit table) (logged log table))))
      (by_limit (flush_limit table) (logged log table) table.zap (zap-logged log table))
    where
      by_limit : (limit : ℕ) (t : TableState) (zap : List Entry) → t.zap ≡ zap
          → length (filter test (flushed limit t).zap) ≤ length (filter test zap) + limit
      by_limit limit t zap same = omega
          (arith, passing_fold (take limit t.flush) t.zap, length-take limit t.flush, ap (λ (z : List Entry). length (filter test z)) same)

pub unique_sync : (log : List Change) (table : TableState)
    → length (unique_in (sync_table log table).zap) ≤ length (unique_in table.zap) + flush_limit table
unique_sync log table = passing_sync (λ entry. entry.home.count == 1) log table

pub duplicate_sync : (log : List Change) (table : TableState)
    → length (duplicate_in (sync_table log table).zap) ≤ length (duplicate_in table.zap) + flush_limit table
duplicate_sync log table = passing_sync (λ entry. nat_lt 1 entry.home.count) log table

-- ---- Pages

pages_more : (n m k : ℕ) → m ≤ n + k → pages_for m ≤ pages_for n + pages_for k
pages_more n m k within = omega arith

pages_two : (a f a' f' k : ℕ) → a' + f' ≤ a + f + k → pages_for a' + pages_for f' ≤ pages_for a + pages_for f + pages_for k + 1
pages_two a f a' f' k within = omega arith

pub pages_for-le : (n : ℕ) → pages_for n ≤ n
pages_for-le n = omega arith

-- the pages that slots, a table and its logs take after a sync, by those before it
pub pages_after : (slots slots' c : ℕ) (log : List Change) (kept : LoggedTable) → slots' ≤ slots + c → length log ≤ c
    → pages_for slots' + table_pages (sync_logged log kept)
    ≤ pages_for slots + table_pages kept + (2 * pages_for c + 2 * pages_for (flush_limit kept.table) + 1)
pages_after slots slots' c log kept slots_within log_within =
    in_all (pages_for slots) (pages_for slots') (pages_for c) (pages_for (flush_limit kept.table)) _ _ _ _ _ _ _ _
    (pages_more slots slots' c slots_within)
    (pages_more (length (unique_in kept.table.zap)) (length (unique_in (sync_table log kept.table).zap)) (flush_limit kept.table)
    (unique_sync log kept.table))
    (pages_more (length (duplicate_in kept.table.zap)) (length (duplicate_in (sync_table log kept.table).zap)) (flush_limit kept.table)
    (duplicate_sync log kept.table))
    (pages_two (length kept.logs.active) (length kept.logs.flushing) (length (sync_logged log kept).logs.active)
    (length (sync_logged log kept).logs.flushing) c
    (shorter (length kept.logs.active + length kept.logs.flushing) (logs_length log kept.table kept.logs)))
  where
    shorter : (n : ℕ) {m : ℕ} → m ≤ n + length log → m ≤ n + c
    shorter n within = omega (arith, within)

    in_all : (s s' c' l u u' d d' a a' f f' : ℕ) → s' ≤ s + c' → u' ≤ u + l → d' ≤ d + l → a' + f' ≤ a + f + c' + 1
        → s' + (u' + d' + a' + f') ≤ s + (u + d + a + f) + (2 * c' + 2 * l + 1)
    in_all s s' c' l u u' d d' a a' f f' es eu ed eaf = omega arith

-- the same in plain numbers
pub pages_after_plain : (slots slots' c : ℕ) (log : List Change) (kept : LoggedTable) → slots' ≤ slots + c → length log ≤ c
    → pages_for slots' + table_pages (sync_logged log kept) ≤ pages_for slots + table_pages kept + (2 * c + 2 * flush_limit kept.table + 1)
pages_after_plain slots slots' c log kept slots_within log_within = at_most _ _ _ _ _ _
    (pages_after slots slots' c log kept slots_within log_within) (pages_for-le c) (pages_for-le (flush_limit kept.table))
  where
    at_most : (new old pc pl c' l : ℕ) → new ≤ old + (2 * pc + 2 * pl + 1) → pc ≤ c' → pl ≤ l → new ≤ old + (2 * c' + 2 * l + 1)
    at_most new old pc pl c' l within ec el = omega arith
