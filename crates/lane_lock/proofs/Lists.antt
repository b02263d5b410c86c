-- Lists read by place: a fact of each element, a count over all, and whether a lane is among some.
use Rattle.std.proofs.Common.{◌≡◌, ℕ, zero, suc, ◌+◌, ◌<◌, ◌≤◌, ◌≢◌, ◌⊎◌, Bool, true, false, ◌||◌, ◌==◌, List, [], ◌∷◌, ◌++◌, length, set, sum_by, refl, sym, ap, ◌∙◌, subst, inl, inr, ⊎_elim, arith}
use Rattle.std.proofs.lemmas.List.Sums.{sum_by-cons}
use mathlib.Core.Option.{some, some-injective, some-ne-none}
use lib.ListN.{get_elem?}
use Rattle.atomic_table.proofs.Lists.{at_set}
use Rattle.lane_lock.specs.Rules.{has}

module _ {X : Type 0} where
  -- a fact of each element, where one is set
  pub each_set : (K : ℕ → X → Type 0) (xs : List X) (i : ℕ) (y : X) → K i y → ((j : ℕ) (x : X) → j ≢ i → get_elem? xs j ≡ some x → K j x)
      → (j : ℕ) (x : X) → get_elem? (set xs i y) j ≡ some x → K j x
  each_set K xs i y mine others j x e = ⊎_elim (λ (h : (j ≡ i) × (y ≡ x)). subst (λ (z : ℕ × X). K z.0 z.1) (λ k. (sym h.0 k, h.1 k)) mine)
      (λ (h : (j ≢ i) × (get_elem? xs j ≡ some x)). others j x h.0 h.1) (at_set xs i j y x e)

  -- what stands in a list with one more at its end
  pub at_end : (xs : List X) (y : X) (j : ℕ) (x : X) → get_elem? (xs ++ y ∷ []) j ≡ some x
      → (get_elem? xs j ≡ some x) ⊎ ((j ≡ length xs) × (y ≡ x))
  at_end [] y zero x e = inr (refl, some-injective y x e)
  at_end [] y (suc j) x e = absurd (some-ne-none x (sym e))
  at_end (z ∷ zs) y zero x e = inl e
  at_end (z ∷ zs) y (suc j) x e = ⊎_elim (λ h. inl h) (λ (h : (j ≡ length zs) × (y ≡ x)). inr (ap suc h.0, h.1)) (at_end zs y j x e)

  pub inside : (xs : List X) (j : ℕ) (x : X) → get_elem? xs j ≡ some x → j < length xs
  inside [] j x e = absurd (some-ne-none x (sym e))
  inside (z ∷ zs) zero x e = omega arith
  inside (z ∷ zs) (suc j) x e = let h = inside zs j x e in omega arith

  -- one place has one element
  pub one_there : (xs : List X) (j : ℕ) (x y : X) → get_elem? xs j ≡ some x → get_elem? xs j ≡ some y → x ≡ y
  one_there xs j x y a b = some-injective x y (sym a ∙ b)

  -- what stands in two lists, one after the other
  pub each_append : (P : X → Type 0) (xs ys : List X) → ((k : ℕ) (x : X) → get_elem? xs k ≡ some x → P x)
      → ((k : ℕ) (x : X) → get_elem? ys k ≡ some x → P x)
      → (k : ℕ) (x : X) → get_elem? (xs ++ ys) k ≡ some x → P x
  each_append P [] ys a b k x e = b k x e
  each_append P (z ∷ zs) ys a b zero x e = a 0 x e
  each_append P (z ∷ zs) ys a b (suc k) x e = each_append P zs ys (λ m y at. a (suc m) y at) b k x e

  pub each_cons : (P : X → Type 0) (y : X) (ys : List X) → P y → ((k : ℕ) (x : X) → get_elem? ys k ≡ some x → P x) → (k : ℕ) (x : X)
      → get_elem? (y ∷ ys) k ≡ some x → P x
  each_cons P y ys p each zero x e = subst P (some-injective y x e) p
  each_cons P y ys p each (suc k) x e = each k x e

  pub sum_set : (f : X → ℕ) (xs : List X) (i : ℕ) (v w : X) → get_elem? xs i ≡ some v → sum_by f (set xs i w) + f v ≡ sum_by f xs + f w
  sum_set f [] i v w e = absurd (some-ne-none v (sym e))
  sum_set f (x ∷ xs) zero v w e = let a = sum_by-cons f x xs in let b = sum_by-cons f w xs in
      let c : f x ≡ f v = ap f (some-injective x v e) in omega arith
  sum_set f (x ∷ xs) (suc i) v w e = let a = sum_by-cons f x xs in let b = sum_by-cons f x (set xs i w) in let c = sum_set f xs i v w e in
      omega arith

  pub sum_at_most : (f g : X → ℕ) (xs : List X) → ((j : ℕ) (x : X) → get_elem? xs j ≡ some x → f x ≤ g x) → sum_by f xs ≤ sum_by g xs
  sum_at_most f g [] most = omega arith
  sum_at_most f g (x ∷ xs) most = let a = sum_by-cons f x xs in let b = sum_by-cons g x xs in let c = most 0 x refl in
      let d = sum_at_most f g xs (λ j y e. most (suc j) y e) in omega arith

  pub sum_nothing : (f : X → ℕ) (xs : List X) → ((j : ℕ) (x : X) → get_elem? xs j ≡ some x → f x ≡ 0) → sum_by f xs ≡ 0
  sum_nothing f [] none = refl
  sum_nothing f (x ∷ xs) none = let a = sum_by-cons f x xs in let b = none 0 x refl in
      let c = sum_nothing f xs (λ j y e. none (suc j) y e) in omega arith

pub has-append : (l : ℕ) (xs ys : List ℕ) → has l (xs ++ ys) ≡ (has l xs || has l ys)
has-append l [] ys = refl
has-append l (x ∷ xs) ys = at (x == l) (has-append l xs ys)
  where
    at : (b : Bool) → has l (xs ++ ys) ≡ (has l xs || has l ys) → (b || has l (xs ++ ys)) ≡ ((b || has l xs) || has l ys)
    at true so_far = refl
    at false so_far = so_far
