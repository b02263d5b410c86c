-- What holds of each element of a list, or of each two.
use Rattle.std.proofs.Common.{◌≡◌, ℕ, zero, suc, Bool, true, false, cond, ◌&&◌, List, [], ◌∷◌, ◌++◌, map, Some, refl, ap, subst, ◌∙◌}
use Rattle.std.specs.Prelude.{filter, slice_get}
use Rattle.std.specs.List.{AllByRecursion, list_all}
use Rattle.std.proofs.lemmas.Bool.{false≢true, and_parts}
use Rattle.pool_model.specs.Pool.{Pairwise}
use Rattle.pool_model.proofs.Lists.{all_from_both}
use Rattle.pool_model.proofs.Loops.{all_push, all_mapped}

-- what holds of each holds of the one at a place
pub every_at : {X : Type 0} (P : X → Type 0) (xs : List X) (i : ℕ) (x : X) → AllByRecursion P xs → slice_get xs i ≡ Some x → P x
every_at P [] i x each there = absurd (cc there)
every_at P (y ∷ ys) zero x each there = let here : y ≡ x = cc in subst P here each.0
every_at P (y ∷ ys) (suc i) x each there = every_at P ys i x each.1 there

-- and back
pub every_unmap : {X Y : Type 0} (P : Y → Type 0) (f : X → Y) (xs : List X) → AllByRecursion P (map f xs) → AllByRecursion (λ x. P (f x)) xs
every_unmap P f [] each = tt
every_unmap P f (x ∷ xs) each = (each.0, every_unmap P f xs each.1)

-- the relation between each earlier one and one that follows
pub pairs_before : {X : Type 0} (R : X → X → Type 0) (xs : List X) (y : X) (ys : List X) → Pairwise R (xs ++ y ∷ ys)
    → AllByRecursion (λ x. R x y) xs
pairs_before R [] y ys pairs = tt
pairs_before R (x ∷ xs) y ys pairs = (middle xs pairs.0, pairs_before R xs y ys pairs.1)
  where
    middle : (zs : List _) → AllByRecursion (R x) (zs ++ y ∷ ys) → R x y
    middle [] each = each.0
    middle (z ∷ zs) each = middle zs each.1

-- one element more, to which each earlier one is related
pub pairs_push : {X : Type 0} (R : X → X → Type 0) (xs : List X) (y : X) → Pairwise R xs → AllByRecursion (λ x. R x y) xs
    → Pairwise R (xs ++ y ∷ [])
pairs_push R [] y pairs each = (tt, tt)
pairs_push R (x ∷ xs) y pairs each = (all_push (R x) xs y pairs.0 each.0, pairs_push R xs y pairs.1 each.1)

-- a relation between images of a function
pub pairs_map : {X Y : Type 0} (R : Y → Y → Type 0) (f : X → Y) (xs : List X) → Pairwise (λ a b. R (f a) (f b)) xs → Pairwise R (map f xs)
pairs_map R f [] pairs = tt
pairs_map R f (x ∷ xs) pairs = (all_mapped (R (f x)) f xs pairs.0, pairs_map R f xs pairs.1)

-- and back
pub pairs_unmap : {X Y : Type 0} (R : Y → Y → Type 0) (f : X → Y) (xs : List X) → Pairwise R (map f xs) → Pairwise (λ a b. R (f a) (f b)) xs
pairs_unmap R f [] pairs = tt
pairs_unmap R f (x ∷ xs) pairs = (every_unmap (R (f x)) f xs pairs.0, pairs_unmap R f xs pairs.1)

-- two facts of each, and a relation between each two, say another
pub pairs_weaker : {X : Type 0} (P : X → Type 0) (R S : X → X → Type 0) → ((a b : X) → P a → P b → R a b → S a b) → (xs : List X)
    → AllByRecursion P xs → Pairwise R xs → Pairwise S xs
pairs_weaker P R S weaker [] each pairs = tt
pairs_weaker P R S weaker (x ∷ xs) each pairs =
    (all_from_both P (R x) (S x) (λ y holds related. weaker x y each.0 holds related) xs each.1 pairs.0, pairs_weaker P R S weaker xs each.1 pairs.1)

-- two relations between each two say another
pub pairs_both : {X : Type 0} (R S U : X → X → Type 0) → ((a b : X) → R a b → S a b → U a b) → (xs : List X) → Pairwise R xs → Pairwise S xs
    → Pairwise U xs
pairs_both R S U both [] first second = tt
pairs_both R S U both
    (x ∷ xs) first second = (all_from_both (R x) (S x) (U x) (both x) xs first.0 second.0, pairs_both R S U both xs first.1 second.1)

-- what passed a test, as an implication on each
pub every_unfilter : {X : Type 0} (P : X → Type 0) (test : X → Bool) (xs : List X) → AllByRecursion P (filter test xs)
    → AllByRecursion (λ x. test x ≡ true → P x) xs
every_unfilter P test [] each = tt
every_unfilter P test (x ∷ xs) each =
    by_test (test x) each (λ rest. every_unfilter P test xs rest)
  where
    by_test : (b : Bool) → AllByRecursion P (cond b (x ∷ filter test xs) (filter test xs))
        → (AllByRecursion P (filter test xs) → AllByRecursion (λ x. test x ≡ true → P x) xs)
        → (b ≡ true → P x) × AllByRecursion (λ x. test x ≡ true → P x) xs
    by_test true each again = (λ _. each.0, again each.1)
    by_test false each again = (λ is. absurd (false≢true is), again each)

-- the test of a whole list
pub list_all-each : {X : Type 0} (test : X → Bool) (xs : List X) → list_all test xs ≡ true → AllByRecursion (λ x. test x ≡ true) xs
list_all-each test [] passed = tt
list_all-each test (x ∷ xs) passed = let parts = and_parts (test x) (list_all test xs) passed in (parts.0, list_all-each test xs parts.1)

-- and back
pub each-list_all : {X : Type 0} (test : X → Bool) (xs : List X) → AllByRecursion (λ x. test x ≡ true) xs → list_all test xs ≡ true
each-list_all test [] each = refl
each-list_all test (x ∷ xs) each = ap (λ b. b && list_all test xs) each.0 ∙ each-list_all test xs each.1
