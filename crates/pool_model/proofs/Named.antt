-- The changes that a function from keys to changes gives over a sorted list of named keys: what is found among them, and that they rise.
use Rattle.std.proofs.Common.{◌≡◌, Bool, true, false, cond, ◌||◌, List, [], ◌∷◌, Option, Some, None, refl, sym, ap, subst, ◌∙◌}
use Rattle.std.specs.Prelude.{fold, if◌then◌else◌}
use Rattle.std.specs.List.{AllByRecursion, filter_map, cons_option}
use Rattle.std.specs.Ordering.{is_eq, is_lt}
use Rattle.std.specs.declared.cmp.Ordering.{Ordering}
use Rattle.std.specs.declared.cmp.Ordering.TheVariants.{Less, Equal, Greater}
use Rattle.ddt_entry.specs.Keys.{key_cmp, key_eq}
use Rattle.ddt_entry.specs.Changes.{key_in}
use Rattle.ddt_entry.specs.declared.key.Key.{Key}
use Rattle.ddt_entry.specs.declared.entry.Change.{Change}
use Rattle.ddt_entry.proofs.KeyLaws.{key_cmp_total, exact_keys, key_eq-true}
use Rattle.pool_model.specs.Pool.{Pairwise, with_key}
use Rattle.pool_model.specs.Table.{change_at, AreChangesRising}
use Rattle.pool_model.proofs.Sorted.{IsPut, rising_fold}
use Rattle.pool_model.specs.Homes.{is_among, GivesOwnChanges}
use Rattle.pool_model.proofs.Lookups.{any-put}
use Rattle.pool_model.proofs.Finding.{keys_same}

-- ---- Sorted keys

pub keys_put : IsPut key_cmp (λ (key : Key). key) with_key
keys_put = record { total = key_cmp_total; exact = exact_keys; alone = λ x. refl; step = λ x y ys. by_order x y ys (key_cmp x y) refl }
  where
    by_order : (x y : Key) (ys : List Key) (o : Ordering) → key_cmp x y ≡ o
        → (if is_lt o then x ∷ y ∷ ys else (if is_eq o then y ∷ ys else y ∷ with_key x ys))
        ≡ (if is_lt o then x ∷ y ∷ ys else (if is_eq o then x ∷ ys else y ∷ with_key x ys))
    by_order x y ys Less said = refl
    by_order x y ys Equal said = ap (λ (k : Key). k ∷ ys) (sym (exact_keys x y said))
    by_order x y ys Greater said = refl

abbrev pub KeyBelow : Key → Key → Type 0
KeyBelow a b = is_lt (key_cmp a b) ≡ true

-- keys that are named, sorted, each once
abbrev pub sorted_keys : List Key → List Key
sorted_keys named = fold (λ keys key. with_key key keys) [] named

pub keys_rising : (named : List Key) → Pairwise KeyBelow (sorted_keys named)
keys_rising named = rising_fold keys_put named [] tt

pub or_rotates : (a b d : Bool) → (a || (b || d)) ≡ ((b || a) || d)
or_rotates true true d = refl
or_rotates true false d = refl
or_rotates false true d = refl
or_rotates false false d = refl

pub or_false : (b : Bool) → (b || false) ≡ b
or_false true = refl
or_false false = refl

among_fold : (key : Key) (named keys : List Key)
    → is_among key (fold (λ ks k. with_key k ks) keys named) ≡ (is_among key named || is_among key keys)
among_fold key [] keys = refl
among_fold key (k ∷ named) keys =
    among_fold key named (with_key k keys) ∙ ap (λ b. is_among key named || b) (any-put keys_same keys_put key k keys) ∙ or_rotates
    (is_among key named) (key_eq k key) (is_among key keys)

-- a key is among the sorted ones where it was named
pub among-sorted : (key : Key) (named : List Key) → is_among key (sorted_keys named) ≡ is_among key named
among-sorted key named = among_fold key named [] ∙ or_false (is_among key named)

-- ---- Changes of keys

module _ (f : Key → Option Change) (own : GivesOwnChanges f) where
  -- what is found among the changes of some keys
  pub change_at-filter_map : (key : Key) (keys : List Key)
      → change_at key (filter_map f keys) ≡ (if is_among key keys then f key else None)
  change_at-filter_map key [] = refl
  change_at-filter_map key (k ∷ keys) = by_change (change_at-filter_map key keys) (f k) refl (key_eq k key) refl
    where
      nothing : (b : Bool) → f key ≡ None → (if b then f key else None) ≡ f key
      nothing true none = refl
      nothing false none = sym none

      at_key : key_eq k key ≡ true → f k ≡ f key
      at_key here = ap f (key_eq-true k key here)

      by_change : change_at key (filter_map f keys) ≡ (if is_among key keys then f key else None) → (o : Option Change) → f k ≡ o
          → (b : Bool) → key_eq k key ≡ b
          → change_at key (cons_option o (filter_map f keys)) ≡ (if b || is_among key keys then f key else None)
      by_change rest None gives true here = rest ∙ nothing (is_among key keys) (sym (at_key here) ∙ gives)
      by_change rest None gives false here = rest
      by_change rest (Some change) gives true here =
          ap (λ b. cond b (Some change) (change_at key (filter_map f keys))) (ap (λ (x : Key). key_eq x key) (own k change gives) ∙ here)
          ∙ sym gives ∙ at_key here
      by_change rest (Some change) gives false here =
          ap (λ b. cond b (Some change) (change_at key (filter_map f keys))) (ap (λ (x : Key). key_eq x key) (own k change gives) ∙ here)
          ∙ rest

  above_all : (k : Key) (keys : List Key) → AllByRecursion (KeyBelow k) keys
      → AllByRecursion (λ c. KeyBelow k (key_in c)) (filter_map f keys)
  above_all k [] above = tt
  above_all k (key ∷ keys) above = by_change (above_all k keys above.1) (f key) refl
    where
      by_change : AllByRecursion (λ c. KeyBelow k (key_in c)) (filter_map f keys) → (o : Option Change) → f key ≡ o
          → AllByRecursion (λ c. KeyBelow k (key_in c)) (cons_option o (filter_map f keys))
      by_change rest None gives = rest
      by_change rest (Some change) gives = (subst (KeyBelow k) (sym (own key change gives)) above.0, rest)

  -- the changes of rising keys rise
  pub changes_rising : (keys : List Key) → Pairwise KeyBelow keys → AreChangesRising (filter_map f keys)
  changes_rising [] rising = tt
  changes_rising (key ∷ keys) rising = by_change (changes_rising keys rising.1) (f key) refl
    where
      by_change : AreChangesRising (filter_map f keys) → (o : Option Change) → f key ≡ o
          → AreChangesRising (cons_option o (filter_map f keys))
      by_change rest None gives = rest
      by_change rest (Some change) gives = (
        subst (λ (x : Key). AllByRecursion (λ c. KeyBelow x (key_in c)) (filter_map f keys)) (sym (own key change gives))
            (above_all key keys rising.0),
        rest,
      )

  -- those of named keys do
  pub named_rising : (named : List Key) → AreChangesRising (filter_map f (sorted_keys named))
  named_rising named = changes_rising (sorted_keys named) (keys_rising named)

  -- and a key that was named has the change that the function gives it
  pub change_at-named : (key : Key) (named : List Key)
      → change_at key (filter_map f (sorted_keys named)) ≡ (if is_among key named then f key else None)
  change_at-named key named = change_at-filter_map key (sorted_keys named) ∙ ap (λ b. if b then f key else None) (among-sorted key named)
