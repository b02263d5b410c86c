-- Which sectors are used once places are marked, and when each place is free until it is taken.
use Rattle.std.proofs.Common.{◌≡◌, ℕ, ◌<◌, Bool, true, false, ◌||◌, ◌==◌, List, [], ◌∷◌, length, get_or, set, Some, None, refl, sym, ap, ◌∙◌, arith}
use Rattle.std.specs.Prelude.{slice_set, if◌then◌else◌}
use Rattle.std.specs.List.{AllByRecursion}
use Rattle.std.proofs.lemmas.Bool.{or_parts}
use Rattle.std.proofs.lemmas.List.{length-set}
use Rattle.pool_model.specs.Pool.{Pairwise}
use Rattle.grant_book.specs.Sectors.{marked}
use Rattle.grant_book.proofs.MarkLaws.{marked-at}
use Rattle.pool_model.proofs.Lists.{all_from, all_from_both}
use Rattle.pool_import.specs.Marks.{taken}

-- ---- Marks

-- a test or one that fails
or_false : (b : Bool) → (b || false) ≡ b
or_false true = refl
or_false false = refl

-- one place more is used
set_used : (used : List Bool) (place s : ℕ) → s < length used → get_or (set used place true) s false ≡ (get_or used s false || (place == s))
set_used used place s within = marked-at (place ∷ []) used s false within ∙ ap (λ b. get_or used s false || b) (or_false (place == s))

-- ---- Taking

-- a place is not used
abbrev IsFree : List Bool → ℕ → Type 0
IsFree used place = get_or used place false ≡ false

-- two places
abbrev Differ : ℕ → ℕ → Type 0
Differ a b = (a == b) ≡ false

-- a place is on the disk
abbrev IsIn : List Bool → ℕ → Type 0
IsIn used place = place < length used

-- places stay on the disk
in_set : (used : List Bool) (place : ℕ) (places : List ℕ) → AllByRecursion (IsIn used) places
    → AllByRecursion (IsIn (set used place true)) places
in_set used place places within = all_from (IsIn used) (IsIn (set used place true))
    (λ q lt. omega (arith, lt, length-set used place true)) places within

-- what is free and isn't taken stays free
still_free : (used : List Bool) (place q : ℕ) → IsIn used q → IsFree used q → Differ place q → IsFree (set used place true) q
still_free used place q within free differ = set_used used place q within ∙ ap (λ b. b || (place == q)) free ∙ differ

-- what is free after that was free, and is another
was_free : (used : List Bool) (place q : ℕ) → IsIn used q → IsFree (set used place true) q → IsFree used q × Differ place q
was_free used place q within free = or_parts (get_or used q false) (place == q) (sym (set_used used place q within) ∙ free)

-- where each is free and no two are one, all are taken
pub taken_if_free : (places : List ℕ) (used : List Bool) → AllByRecursion (IsIn used) places → AllByRecursion (IsFree used) places
    → Pairwise Differ places → taken used places ≡ Some (marked used places)
taken_if_free [] used within free differ = refl
taken_if_free (place ∷ places) used within free differ =
    ap (λ b. if b then None else taken (slice_set used place true) places) free.0
    ∙ taken_if_free places (set used place true) (in_set used place places within.1)
    (all_from_both (λ q. IsIn used q × IsFree used q) (Differ place) (IsFree (set used place true))
    (λ q is other. still_free used place q is.0 is.1 other) places
    (all_from_both (IsIn used) (IsFree used) (λ q. IsIn used q × IsFree used q) (λ q one other. (one, other)) places within.1 free.1)
    differ.0)
    differ.1

-- what was taken tells
pub record WasTaken (used : List Bool) (places : List ℕ) (after : List Bool) : Type 0 where
  pub free : AllByRecursion (IsFree used) places
  pub differ : Pairwise Differ places
  pub used_then : after ≡ marked used places

-- equal lists
same_list : (a b : List Bool) → Some a ≡ Some b → a ≡ b
same_list a b same = cc

-- where all are taken, each was free and no two are one
pub free_if_taken : (places : List ℕ) (used after : List Bool) → AllByRecursion (IsIn used) places → taken used places ≡ Some after
    → WasTaken used places after
free_if_taken [] used after within is = record { free = tt; differ = tt; used_then = sym (same_list used after is) }
free_if_taken (place ∷ places) used after within is =
    by_use (get_or used place false) refl is
    (λ rest. free_if_taken places (set used place true) after (in_set used place places within.1) rest)
  where
    by_use : (b : Bool) → get_or used place false ≡ b → (if b then None else taken (set used place true) places) ≡ Some after
        → (taken (set used place true) places ≡ Some after → WasTaken (set used place true) places after)
        → WasTaken used (place ∷ places) after
    by_use true here none again = absurd (cc none)
    by_use false here rest again =
        let later = again rest in
        let each : AllByRecursion (λ q. IsFree used q × Differ place q) places = all_from_both (IsIn used) (IsFree (set used place true))
        (λ q. IsFree used q × Differ place q) (was_free used place) places within.1 later.free in
        record {
          free = (here, all_from (λ q. IsFree used q × Differ place q) (IsFree used) (λ q both. both.0) places each);
          differ = (all_from (λ q. IsFree used q × Differ place q) (Differ place) (λ q both. both.1) places each, later.differ);
          used_then = later.used_then;
        }
