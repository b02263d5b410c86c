-- How many pointers the homes of a table count together, once one of them was set or dropped.
use Rattle.std.proofs.Common.{◌≡◌, ℕ, ◌+◌, ◌-◌, ◌*◌, ◌^◌, ◌≤◌, Bool, true, false, cond, not, List, [], ◌∷◌, length, find, Option, Some, refl, ap, arith}
use Rattle.std.specs.Prelude.{if◌then◌else◌}
use Rattle.std.specs.List.{AllByRecursion}
use Rattle.std.specs.Option.{option_map}
use Rattle.std.specs.Ordering.{is_eq, is_lt}
use Rattle.std.specs.declared.cmp.Ordering.{Ordering}
use Rattle.std.specs.declared.cmp.Ordering.TheVariants.{Less, Equal, Greater}
use Rattle.std.proofs.lemmas.List.Sums.{sum_by-cons}
use Rattle.ddt_entry.specs.Keys.{key_cmp, key_eq}
use Rattle.ddt_entry.specs.declared.key.Key.{Key}
use Rattle.ddt_entry.specs.declared.entry.Entry.{Entry}
use Rattle.ddt_entry.proofs.KeyLaws.{key_eq-same}
use Rattle.pool_model.specs.Table.{AreRising, entry_at, set_entry, drop_entry}
use Rattle.pool_model.proofs.Finding.{keys_same}
use Rattle.pool_model.proofs.Lookups.{at-above}
use Rattle.pool_model.proofs.TablePuts.{entries_put}
use Rattle.ddt_class.specs.Classes.{counts_in, count_of, IsStored}
use Rattle.plain_table.proofs.HomeLists.{Below}
use Rattle.ddt_class.proofs.Splits.{below_all, same_by_order}

counts-cons : (e : Entry) (es : List Entry) → counts_in (e ∷ es) ≡ e.home.count + counts_in es
counts-cons e es = sum_by-cons (λ (x : Entry). x.home.count) e es

-- a home that is not there counts nothing
none_above : (key : Key) (e : Entry) (es : List Entry) → key_eq e.key key ≡ true → AllByRecursion (Below e) es
    → count_of (entry_at key es) ≡ 0
none_above key e es here above =
    ap (λ (o : Option Entry). count_of (option_map (λ (x : Entry). x.home) o)) (at-above keys_same entries_put key e es here above)

-- the count of a home in a list whose first entry has its key or not
abbrev count_here : Key → Bool → Entry → List Entry → ℕ
count_here key b e es = count_of (option_map (λ (x : Entry). x.home) (cond b (Some e) (find (λ (x : Entry). key_eq x.key key) es)))

pub counts-set : (entry : Entry) (zap : List Entry) → AreRising zap
    → counts_in (set_entry entry zap) + count_of (entry_at entry.key zap) ≡ counts_in zap + entry.home.count
counts-set entry [] rising = omega (arith, counts-cons entry [])
counts-set entry (e ∷ es) rising =
    by_order (counts-set entry es rising.1) (key_cmp entry.key e.key) refl
  where
    by_order : counts_in (set_entry entry es) + count_of (entry_at entry.key es) ≡ counts_in es + entry.home.count → (o : Ordering)
        → key_cmp entry.key e.key ≡ o
        → counts_in (if is_lt o then entry ∷ e ∷ es else (if is_eq o then entry ∷ es else e ∷ set_entry entry es)) + count_of
        (entry_at entry.key (e ∷ es)) ≡ counts_in (e ∷ es) + entry.home.count
    by_order rest Less said =
        let none : count_of (entry_at entry.key (e ∷ es)) ≡ 0 =
        none_above entry.key entry (e ∷ es) (key_eq-same entry.key)
        (ap is_lt said, below_all entry e es (ap is_lt said) rising.0) in
        omega (arith, none, counts-cons entry (e ∷ es))
    by_order rest Equal said =
        let here : count_of (entry_at entry.key (e ∷ es)) ≡ e.home.count =
        ap (λ b. count_here entry.key b e es) (same_by_order entry.key e.key Equal said) in
        omega (arith, here, counts-cons entry es, counts-cons e es)
    by_order rest Greater said =
        let there : count_of (entry_at entry.key (e ∷ es)) ≡ count_of (entry_at entry.key es) =
        ap (λ b. count_here entry.key b e es) (same_by_order entry.key e.key Greater said) in
        omega (arith, there, rest, counts-cons e (set_entry entry es), counts-cons e es)

pub counts-drop : (key : Key) (zap : List Entry) → AreRising zap
    → counts_in (drop_entry key zap) + count_of (entry_at key zap) ≡ counts_in zap
counts-drop key [] rising = refl
counts-drop key (e ∷ es) rising = by_test (counts-drop key es rising.1) (key_eq e.key key) refl
  where
    kept : counts_in (drop_entry key es) + count_of (entry_at key es) ≡ counts_in es
        → counts_in (e ∷ drop_entry key es) + count_of (entry_at key es) ≡ counts_in (e ∷ es)
    kept rest = omega (arith, rest, counts-cons e (drop_entry key es), counts-cons e es)

    gone : counts_in (drop_entry key es) + count_of (entry_at key es) ≡ counts_in es → count_of (entry_at key es) ≡ 0
        → counts_in (drop_entry key es) + e.home.count ≡ counts_in (e ∷ es)
    gone rest none = omega (arith, rest, none, counts-cons e es)

    by_test : counts_in (drop_entry key es) + count_of (entry_at key es) ≡ counts_in es → (b : Bool) → key_eq e.key key ≡ b
        → counts_in (cond (not b) (e ∷ drop_entry key es) (drop_entry key es)) + count_here key b e es ≡ counts_in (e ∷ es)
    by_test rest true here = gone rest (none_above key e es here rising.0)
    by_test rest false here = kept rest

-- no more than so many for each entry
pub counts-bound : (zap : List Entry) → AllByRecursion IsStored zap → counts_in zap ≤ length zap * (2 ^ 64 - 1)
counts-bound [] stored = omega arith
counts-bound (e ∷ es) stored = omega (arith, counts-bound es stored.1, stored.0.fits, counts-cons e es)
