-- The homes that a table finds: each is what its search finds, and what holds of all that the table keeps holds of them.
use Rattle.std.proofs.Common.{◌≡◌, Bool, true, false, cond, not, List, [], ◌∷◌, Some, refl, ap, subst, ◌∙◌}
use Rattle.std.specs.Prelude.{fold}
use Rattle.std.specs.List.{AllByRecursion, find}
use Rattle.std.specs.Option.{option_map}
use Rattle.std.specs.Ordering.{is_lt}
use Rattle.ddt_entry.specs.Keys.{key_cmp, key_eq}
use Rattle.ddt_entry.specs.declared.key.Key.{Key}
use Rattle.ddt_entry.specs.declared.entry.Home.{Home}
use Rattle.ddt_entry.specs.declared.entry.Entry.{Entry}
use Rattle.ddt_entry.specs.declared.entry.Change.{Change}
use Rattle.ddt_entry.specs.declared.entry.Change.TheVariants as changes
use Rattle.ddt_entry.proofs.KeyLaws.{key_cmp_total, key_eq-same}
use Rattle.pool_model.specs.Table.{TableState, entry_at, set_entry, drop_entry, set_found, entries_found, AreRising}
use Rattle.pool_model.proofs.Lists.{all_filter, all_from_both}
use Rattle.pool_model.proofs.Sorted.{less_of, all_put}
use Rattle.pool_model.proofs.TablePuts.{entries_put, apart_by_order}

-- ---- Orders

-- what comes before an earlier key comes before a later one
pub earlier_yet : (a b c : Key) → is_lt (key_cmp a b) ≡ true → is_lt (key_cmp b c) ≡ true → is_lt (key_cmp a c) ≡ true
earlier_yet a b c one other = ap is_lt (key_cmp_total.trans a b c (less_of (key_cmp a b) one) (less_of (key_cmp b c) other))

-- ---- The whole list

-- one entry comes before another
abbrev pub IsBefore : Entry → Entry → Type 0
IsBefore a b = is_lt (key_cmp a.key b.key) ≡ true

-- in a rising list each entry is what is found of its key
pub each_found : (es : List Entry) → AreRising es → AllByRecursion (λ entry. entry_at entry.key es ≡ Some entry.home) es
each_found [] rising = tt
each_found (f ∷ fs) rising = (
  ap (λ b. option_map (λ (x : Entry). x.home) (cond b (Some f) (find (λ (x : Entry). key_eq x.key f.key) fs))) (key_eq-same f.key),
  all_from_both (IsBefore f) (λ (e : Entry). entry_at e.key fs ≡ Some e.home) (λ (e : Entry). entry_at e.key (f ∷ fs) ≡ Some e.home)
      (λ e later there. ap (λ b. option_map (λ (x : Entry). x.home) (cond b (Some f) (find (λ (x : Entry). key_eq x.key e.key) fs)))
      (apart_by_order f.key e.key later) ∙ there)
      fs rising.0 (each_found fs rising.1),
)

-- what holds of each entry of a key holds of what is found of it
pub of_found : (Q : Home → Type 0) (key : Key) (home : Home) (es : List Entry)
    → AllByRecursion (λ entry. key_eq entry.key key ≡ true → Q entry.home) es → entry_at key es ≡ Some home → Q home
of_found Q key home [] each there = absurd (cc there)
of_found Q key home (f ∷ fs) each there = by_test (key_eq f.key key) each.0 there (λ later. of_found Q key home fs each.1 later)
  where
    by_test : (b : Bool) → (b ≡ true → Q f.home)
        → option_map (λ (x : Entry). x.home) (cond b (Some f) (find (λ (x : Entry). key_eq x.key key) fs)) ≡ Some home
        → (entry_at key fs ≡ Some home → Q home) → Q home
    by_test true here is again = let same : f.home ≡ home = cc in subst Q same (here refl)
    by_test false here is again = again is

-- ---- What holds of all that a table keeps

module _ (P : Entry → Type 0) (Q : Change → Type 0) (entry_of : (entry : Entry) → Q (changes.Entry entry) → P entry) where
  every_log : (log : List Change) (es : List Entry) → AllByRecursion Q log → AllByRecursion P es → AllByRecursion P (fold set_found es log)
  every_log [] es logged each = each
  every_log (changes.Entry entry ∷ log) es logged each = every_log log (set_entry entry es) logged.1
      (all_put entries_put P entry es (entry_of entry logged.0) each)
  every_log (changes.Gone key ∷ log) es logged each = every_log log (drop_entry key es) logged.1
      (all_filter P (λ entry. not (key_eq entry.key key)) es each)

  pub every_found : (table : TableState) → AllByRecursion P table.zap → AllByRecursion Q table.flush → AllByRecursion Q table.active
      → AllByRecursion P (entries_found table)
  every_found table zap flush active = every_log table.active (fold set_found table.zap table.flush) active
      (every_log table.flush table.zap flush zap)
