-- What is in a list: of two such things one is the other or they are a pair of the list, and a filter leaves those that pass.
use Rattle.std.proofs.Common.{◌≡◌, Bool, true, false, cond, ◌⊎◌, inl, inr, ⊎_elim, List, [], ◌∷◌, filter, map, refl, sym, ap, subst, ◌∙◌}
use Rattle.std.specs.List.{AllByRecursion}
use Rattle.pool_model.specs.Pool.{Pairwise}
use Rattle.pool_model.specs.Waiting.{IsIn}
use Rattle.pool_model.proofs.Lists.{all_at, all_tested}

-- a test doesn't answer both
pub clash : (b : Bool) → b ≡ true → b ≡ false → ⊥
clash b one other = cc (one, other)

module _ {X : Type 0} where
  pub pair_in : (R : X → X → Type 0) (x y : X) (xs : List X) → IsIn x xs → IsIn y xs → Pairwise R xs → (x ≡ y) ⊎ (R x y ⊎ R y x)
  pair_in R x y [] here there pairs = absurd here
  pair_in R x y (z ∷ zs) here there pairs =
      ⊎_elim
      (λ xz. ⊎_elim (λ yz. inl (xz ∙ sym yz)) (λ later. inr (inl (subst (λ w. R w y) (sym xz) (all_at (R z) y zs later pairs.0)))) there)
      (λ later. ⊎_elim (λ yz. inr (inr (subst (λ w. R w x) (sym yz) (all_at (R z) x zs later pairs.0))))
      (λ again. pair_in R x y zs later again pairs.1) there)
      here

  -- what passes a test is in what the filter leaves
  pub in_filter : (test : X → Bool) (x : X) (xs : List X) → test x ≡ true → IsIn x xs → IsIn x (filter test xs)
  in_filter test x [] passes here = here
  in_filter test x (y ∷ ys) passes here = by_test (in_filter test x ys passes) (test y) refl
    where
      by_test : (IsIn x ys → IsIn x (filter test ys)) → (b : Bool) → test y ≡ b → IsIn x (cond b (y ∷ filter test ys) (filter test ys))
      by_test rest true e = ⊎_elim (λ same. inl same) (λ later. inr (rest later)) here
      by_test rest false e = ⊎_elim (λ same. absurd (clash (test x) passes (ap test same ∙ e))) rest here

  pub in_unfiltered : (test : X → Bool) (x : X) (xs : List X) → IsIn x (filter test xs) → IsIn x xs
  in_unfiltered test x [] here = here
  in_unfiltered test x (y ∷ ys) here = by_test (in_unfiltered test x ys) (test y) here
    where
      by_test : (IsIn x (filter test ys) → IsIn x ys) → (b : Bool) → IsIn x (cond b (y ∷ filter test ys) (filter test ys))
          → (x ≡ y) ⊎ IsIn x ys
      by_test rest true there = ⊎_elim (λ same. inl same) (λ later. inr (rest later)) there
      by_test rest false there = inr (rest there)

  pub passed_in : (test : X → Bool) (x : X) (xs : List X) → IsIn x (filter test xs) → test x ≡ true
  passed_in test x xs here = all_at (λ y. test y ≡ true) x (filter test xs) here (all_tested (λ y. test y ≡ true) test (λ y e. e) xs)

  -- a property that a map keeps, and a relation
  pub all_kept : (P : X → Type 0) (f : X → X) → ((x : X) → P x → P (f x)) → (xs : List X) → AllByRecursion P xs
      → AllByRecursion P (map f xs)
  all_kept P f keeps [] all = tt
  all_kept P f keeps (x ∷ xs) all = (keeps x all.0, all_kept P f keeps xs all.1)

  pub pairs_kept : (R : X → X → Type 0) (f : X → X) → ((x y : X) → R x y → R (f x) (f y)) → (xs : List X) → Pairwise R xs
      → Pairwise R (map f xs)
  pairs_kept R f keeps [] pairs = tt
  pairs_kept R f keeps (x ∷ xs) pairs = (each xs pairs.0, pairs_kept R f keeps xs pairs.1)
    where
      each : (ys : List X) → AllByRecursion (R x) ys → AllByRecursion (R (f x)) (map f ys)
      each [] all = tt
      each (y ∷ ys) all = (keeps x y all.0, each ys all.1)
