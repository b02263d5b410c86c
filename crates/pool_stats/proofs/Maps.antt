-- What a map leaves of sums, counts and filters.
use Rattle.std.proofs.Common.{◌≡◌, ℕ, ◌+◌, Bool, true, false, cond, List, [], ◌∷◌, map, filter, sum_by, count_by, refl, sym, ap, ◌∙◌, arith, ◌||◌}
use Rattle.std.specs.List.{list_any}
use Rattle.std.proofs.lemmas.List.Sums.{sum_by-cons}

pub sum_by-map : {X Y : Type 0} (f : Y → ℕ) (g : X → Y) (xs : List X) → sum_by f (map g xs) ≡ sum_by (λ x. f (g x)) xs
sum_by-map f g [] = refl
sum_by-map f g (x ∷ xs) = sum_by-cons f (g x) (map g xs) ∙ ap (λ n. f (g x) + n) (sum_by-map f g xs) ∙ sym (sum_by-cons (λ x. f (g x)) x xs)

pub count_by-map : {X Y : Type 0} (p : Y → Bool) (g : X → Y) (xs : List X) → count_by p (map g xs) ≡ count_by (λ x. p (g x)) xs
count_by-map p g xs = sum_by-map (λ y. cond (p y) 1 0) g xs

pub filter-map : {X Y : Type 0} (p : Y → Bool) (g : X → Y) (xs : List X) → filter p (map g xs) ≡ map g (filter (λ x. p (g x)) xs)
filter-map p g [] = refl
filter-map p g (x ∷ xs) =
    elim (p (g x)) as (λ b. cond b (g x ∷ filter p (map g xs)) (filter p (map g xs)) ≡ map g
    (cond b (x ∷ filter (λ x. p (g x)) xs) (filter (λ x. p (g x)) xs)))
    [ true ↦ ap (λ ys. g x ∷ ys) (filter-map p g xs) | false ↦ filter-map p g xs ]

-- none of a list is counted where none passes
pub count_by-none : {X : Type 0} (p : X → Bool) (xs : List X) → list_any p xs ≡ false → count_by p xs ≡ 0
count_by-none p [] none = refl
count_by-none p (x ∷ xs) none =
    sum_by-cons (λ x. cond (p x) 1 0) x xs
    ∙ (elim (p x) as (λ b. (b || list_any p xs) ≡ false → cond b 1 0 + count_by p xs ≡ 0)
    [ true ↦ λ h. cc | false ↦ λ h. omega (arith, count_by-none p xs h) ]) none
