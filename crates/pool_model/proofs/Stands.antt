-- Which of some standings stands, where there are more of them, or more is known of what stands.
use Rattle.std.proofs.Common.{◌≡◌, ◌⊎◌, ℕ, Bool, List, [], ◌∷◌, ◌++◌, inl, inr, ⊎_elim}
use Rattle.pool_model.specs.Group.{Standing}
use Rattle.pool_model.specs.Crash.{AnyStands, FirstStands, StandsAt}

module _ (stands : Standing → Type 0) where
  pub any_left : (xs ys : List Standing) → AnyStands stands xs → AnyStands stands (xs ++ ys)
  any_left [] ys any = absurd any
  any_left (x ∷ xs) ys any = ⊎_elim (λ here. inl here) (λ later. inr (any_left xs ys later)) any

  pub any_right : (xs ys : List Standing) → AnyStands stands ys → AnyStands stands (xs ++ ys)
  any_right [] ys any = any
  any_right (x ∷ xs) ys any = inr (any_right xs ys any)

  pub any_either : (xs ys : List Standing) → AnyStands stands (xs ++ ys) → AnyStands stands xs ⊎ AnyStands stands ys
  any_either [] ys any = inr any
  any_either (x ∷ xs) ys any =
      ⊎_elim (λ here. inl (inl here)) (λ later. ⊎_elim (λ left. inl (inr left)) (λ right. inr right) (any_either xs ys later)) any

  -- the last of them stands
  pub any_last : (xs : List Standing) (s : Standing) → stands s → AnyStands stands (xs ++ s ∷ [])
  any_last xs s here = any_right xs (s ∷ []) (inl here)

  first_left : (xs ys : List Standing) → FirstStands stands xs → FirstStands stands (xs ++ ys)
  first_left [] ys first = absurd first
  first_left (x ∷ xs) ys first = first

  pub at_left : (failed : Bool) (group : ℕ) (xs ys : List Standing) → StandsAt stands failed group xs
      → StandsAt stands failed group (xs ++ ys)
  at_left failed group [] ys at = absurd at
  at_left failed group (x ∷ xs) ys at =
      ⊎_elim
      (λ here. inl (here.0, ⊎_elim (λ now. inl now) (λ next. inr (next.0, first_left xs ys next.1)) here.1))
      (λ later. inr (at_left failed group xs ys later)) at

  pub at_right : (failed : Bool) (group : ℕ) (xs ys : List Standing) → StandsAt stands failed group ys
      → StandsAt stands failed group (xs ++ ys)
  at_right failed group [] ys at = at
  at_right failed group (x ∷ xs) ys at = inr (at_right failed group xs ys at)

  -- the last of them is the one of this group, and stands
  pub at_last : (failed : Bool) (group : ℕ) (xs : List Standing) (s : Standing) → s.pool.group ≡ group → stands s
      → StandsAt stands failed group (xs ++ s ∷ [])
  at_last failed group xs s number here = at_right failed group xs (s ∷ []) (inl (number, inl here))

  -- the one of a group that stands is one of them
  pub any_at : (failed : Bool) (group : ℕ) (xs : List Standing) → StandsAt stands failed group xs → AnyStands stands xs
  any_at failed group [] at = absurd at
  any_at failed group (x ∷ xs) at =
      ⊎_elim
      (λ here. ⊎_elim (λ now. inl now) (λ next. inr (any_first xs next.1)) here.1)
      (λ later. inr (any_at failed group xs later)) at
    where
      any_first : (xs : List Standing) → FirstStands stands xs → AnyStands stands xs
      any_first [] first = absurd first
      any_first (x ∷ xs) first = inl first

-- what follows from standing
module _ (stands others : Standing → Type 0) (from : (s : Standing) → stands s → others s) where
  first_from : (xs : List Standing) → FirstStands stands xs → FirstStands others xs
  first_from [] first = absurd first
  first_from (x ∷ xs) first = from x first

  pub at_from : (failed : Bool) (group : ℕ) (xs : List Standing) → StandsAt stands failed group xs → StandsAt others failed group xs
  at_from failed group [] at = absurd at
  at_from failed group (x ∷ xs) at =
      ⊎_elim
      (λ here. inl (here.0, ⊎_elim (λ now. inl (from x now)) (λ next. inr (next.0, first_from xs next.1)) here.1))
      (λ later. inr (at_from failed group xs later)) at
