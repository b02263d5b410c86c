-- What a loop over a list comes to with one item more, and where a search in one ends.
use Rattle.std.proofs.Common.{◌≡◌, ℕ, ◌+◌, ◌<◌, Bool, false, cond, not, List, [], ◌∷◌, ◌++◌, length, take, map, filter, get_or, Option, Some, None, refl, sym, ap, ◌∙◌, arith, unwrap_or, position}
use Rattle.std.specs.List.{AllByRecursion, filter_map, cons_option, position_or_len}
use Rattle.std.specs.Option.{option_to_list}
use Rattle.std.proofs.lemmas.List.{take_more, ext_get_or, get_or-map, length-map}
use Rattle.std.proofs.lemmas.List.Elements.{filter_map-append}
use Rattle.std.proofs.lemmas.List.Sums.{prefix_len-le-length}
use Rattle.std.proofs.lemmas.Grind.{common_steps}

-- what holds of each item and of one more
pub all_push : {X : Type 0} (P : X → Type 0) (xs : List X) (x : X) → AllByRecursion P xs → P x → AllByRecursion P (xs ++ x ∷ [])
all_push P [] x all here = (here, tt)
all_push P (y ∷ ys) x all here = (all.0, all_push P ys x all.1 here)

-- what holds of each item's image holds of each of the images
pub all_mapped : {X Y : Type 0} (P : Y → Type 0) (f : X → Y) (xs : List X) → AllByRecursion (λ x. P (f x)) xs → AllByRecursion P (map f xs)
all_mapped P f [] all = tt
all_mapped P f (x ∷ xs) all = (all.0, all_mapped P f xs all.1)

-- a list whose items are those of another, by a function
pub mapped : {X Y : Type 0} (f : X → Y) (xs : List X) (ys : List Y) (item : X) (default : Y) → length ys ≡ length xs
    → ((i : ℕ) → i < length xs → get_or ys i default ≡ f (get_or xs i item)) → ys ≡ map f xs
mapped f xs ys item default long each =
    ext_get_or default ys (map f xs) (long ∙ sym (length-map xs f))
    (λ i within.
    let there : i < length xs = omega (arith, long, within) in
    each i there ∙ sym (get_or-map f xs i item default there))

-- where no item passes, nothing is left
pub filter-none : {X : Type 0} (test : X → Bool) (xs : List X) → AllByRecursion (λ x. test x ≡ false) xs → filter test xs ≡ []
filter-none test [] all = refl
filter-none test (x ∷ xs) all = ap (λ b. cond b (x ∷ filter test xs) (filter test xs)) all.0 ∙ filter-none test xs all.1

-- functions that agree on a list map it alike
pub map-same : {X Y : Type 0} (f g : X → Y) (xs : List X) → AllByRecursion (λ x. f x ≡ g x) xs → map f xs ≡ map g xs
map-same f g [] all = refl
map-same f g (x ∷ xs) all = ap (λ y. y ∷ map f xs) all.0 ∙ ap (λ ys. g x ∷ ys) (map-same f g xs all.1)

listed : {X : Type 0} (o : Option X) → cons_option o [] ≡ option_to_list o
listed None = refl
listed (Some x) = refl

-- one item more, and what it gives
pub filter_map_more : {X Y : Type 0} (h : X → Option Y) (xs : List X) (i : ℕ) (d : X) (ys more : List Y) (o : Option Y) → i < length xs
    → ys ≡ filter_map h (take i xs) → o ≡ h (get_or xs i d) → more ≡ ys ++ option_to_list o → more ≡ filter_map h (take (i + 1) xs)
filter_map_more h xs i d ys more o within so_far here pushed =
    pushed
    ∙ ap (λ l. l ++ option_to_list o) so_far
    ∙ ap (λ p. filter_map h (take i xs) ++ option_to_list p) here
    ∙ ap (λ l. filter_map h (take i xs) ++ l) (sym (listed (h (get_or xs i d))))
    ∙ sym (filter_map-append h (take i xs) (get_or xs i d ∷ []))
    ∙ ap (filter_map h) (sym (take_more xs i d within))

-- the place that `position` finds, or else the length
pub unwrap_or-position : {X : Type 0} (p : X → Bool) (xs : List X) → unwrap_or (position p xs) (length xs) ≡ position_or_len p xs
unwrap_or-position p xs = let within = prefix_len-le-length (λ x. not (p x)) xs in grind (arith, common_steps)
