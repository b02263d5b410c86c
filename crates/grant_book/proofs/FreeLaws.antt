-- Laws of the sectors that aren't used.
use Rattle.std.proofs.Common.{◌≡◌, ℕ, zero, suc, ◌+◌, ◌-◌, ◌<◌, ◌≤◌, Bool, true, false, not, List, [], ◌∷◌, ◌++◌, length, take, drop, refl, sym, ap, ◌∙◌, subst, cond, eqb, arith}
use Rattle.std.specs.Prelude.{⊤, slice_index_or}
use Rattle.std.specs.List.{count_by, AllByRecursion, IsDistinct}
use Rattle.std.proofs.lemmas.Bool.{ne_eqb}
use Rattle.std.proofs.lemmas.List.Sums.{sum_by-cons}
use Rattle.std.proofs.lemmas.List.{append-nil, drop_all, take_at}
use Rattle.grant_book.specs.Sectors.{free_from, free_sectors, AreFirstFree}

-- there are as many as there are notes that say so
length-free_from : (sector : ℕ) (used : List Bool) → length (free_from sector used) ≡ count_by not used
length-free_from sector [] = refl
length-free_from sector (true ∷ used) = omega
    (arith, length-free_from (sector + 1) used, sum_by-cons (λ is_used. cond (not is_used) 1 0) true used)
length-free_from sector (false ∷ used) = omega
    (arith, length-free_from (sector + 1) used, sum_by-cons (λ is_used. cond (not is_used) 1 0) false used)

pub length-free_sectors : (used : List Bool) → length (free_sectors used) ≡ count_by not used
length-free_sectors used = length-free_from 0 used

-- what holds of each item holds of each in front
all_taken : {X : Type 0} (P : X → Type 0) (count : ℕ) (xs : List X) → AllByRecursion P xs → AllByRecursion P (take count xs)
all_taken P zero xs all = tt
all_taken P (suc count) [] all = tt
all_taken P (suc count) (x ∷ xs) all = (all.0, all_taken P count xs all.1)

-- a sector that is free, where the notes are those from a first sector on
pub record IsFreeFrom (first : ℕ) (used : List Bool) (sector : ℕ) : Type 0 where
  pub from : first ≤ sector
  pub within : sector < first + length used
  pub free : (default : Bool) → slice_index_or used (sector - first) default ≡ false

-- a note in front of those that there are
free_behind : (first : ℕ) (is_used : Bool) (used : List Bool) (sector : ℕ) → IsFreeFrom (first + 1) used sector
    → IsFreeFrom first (is_used ∷ used) sector
free_behind first is_used used sector is_free = record {
  from = omega (arith, is_free.from);
  within = omega (arith, is_free.within);
  free = λ default. ap (λ at. slice_index_or (is_used ∷ used) at default) one_more ∙ is_free.free default;
}
  where
    one_more : sector - first ≡ suc (sector - (first + 1))
    one_more = omega (arith, is_free.from)

free_behind_all : (first : ℕ) (is_used : Bool) (used : List Bool) (sectors : List ℕ) → AllByRecursion (IsFreeFrom (first + 1) used) sectors
    → AllByRecursion (IsFreeFrom first (is_used ∷ used)) sectors
free_behind_all first is_used used [] all = tt
free_behind_all first is_used used
    (sector ∷ sectors) all = (free_behind first is_used used sector all.0, free_behind_all first is_used used sectors all.1)

pub free_from-free : (first : ℕ) (used : List Bool) → AllByRecursion (IsFreeFrom first used) (free_from first used)
free_from-free first [] = tt
free_from-free first (true ∷ used) = free_behind_all first true used (free_from (first + 1) used) (free_from-free (first + 1) used)
free_from-free first (false ∷ used) = (
  record { from = omega arith; within = omega arith; free = λ default. ap (λ at. slice_index_or (false ∷ used) at default) none },
  free_behind_all first false used (free_from (first + 1) used) (free_from-free (first + 1) used),
)
  where
    none : first - first ≡ 0
    none = omega arith

-- a sector of the pool that isn't used
pub record IsFree (used : List Bool) (sector : ℕ) : Type 0 where
  pub within : sector < length used
  pub free : (default : Bool) → slice_index_or used sector default ≡ false

-- each of them is in the pool, and isn't used
pub free_sectors-free : (used : List Bool) → AllByRecursion (IsFree used) (free_sectors used)
free_sectors-free used = each (free_sectors used) (free_from-free 0 used)
  where
    each : (sectors : List ℕ) → AllByRecursion (IsFreeFrom 0 used) sectors → AllByRecursion (IsFree used) sectors
    each [] all = tt
    each (sector ∷ sectors) all = (
      record { within = omega (arith, all.0.within); free = λ default. ap (λ at. slice_index_or used at default) (from_zero sector) ∙ all.0.free default },
      each sectors all.1,
    )
      where
        from_zero : (at : ℕ) → at ≡ at - 0
        from_zero at = omega arith

-- each number is below those behind it
abbrev pub AreRising : List ℕ → Type 0
AreRising [] = ⊤
AreRising (first ∷ others) = AllByRecursion (λ other. first < other) others × AreRising others

-- they stand in rising order
rising_from : (first : ℕ) (used : List Bool) → AreRising (free_from first used)
rising_from first [] = tt
rising_from first (true ∷ used) = rising_from (first + 1) used
rising_from first (false ∷ used) = (behind (free_from (first + 1) used) (free_from-free (first + 1) used), rising_from (first + 1) used)
  where
    behind : (sectors : List ℕ) → AllByRecursion (IsFreeFrom (first + 1) used) sectors → AllByRecursion (λ other. first < other) sectors
    behind [] all = tt
    behind (sector ∷ sectors) all = (omega (arith, all.0.from), behind sectors all.1)

pub free_sectors-rising : (used : List Bool) → AreRising (free_sectors used)
free_sectors-rising used = rising_from 0 used

-- a front of numbers that rise rises
pub AreRising-take : (count : ℕ) (numbers : List ℕ) → AreRising numbers → AreRising (take count numbers)
AreRising-take zero numbers rising = tt
AreRising-take (suc count) [] rising = tt
AreRising-take (suc count)
    (first ∷ others) rising = (all_taken (λ other. first < other) count others rising.0, AreRising-take count others rising.1)

-- numbers that rise are distinct
pub distinct_from_rising : (numbers : List ℕ) → AreRising numbers → IsDistinct eqb numbers
unfolding IsDistinct
distinct_from_rising [] rising = tt
distinct_from_rising (first ∷ others) rising = (each others rising.0, distinct_from_rising others rising.1)
  where
    each : (ns : List ℕ) → AllByRecursion (λ other. first < other) ns → AllByRecursion (λ other. eqb first other ≡ false) ns
    each [] all = tt
    each (other ∷ ns) all = (ne_eqb first other (λ same. omega (arith, same, all.0)), each ns all.1)

-- places that were found: each is free, and no two are one
module _ (used : List Bool) (wanted : ℕ) (places : List ℕ) (found : AreFirstFree used wanted places) where
  pub found-free : AllByRecursion (IsFree used) places
  found-free = subst (AllByRecursion (IsFree used)) (sym found.first)
      (all_taken (IsFree used) wanted (free_sectors used) (free_sectors-free used))

  pub found-distinct : IsDistinct eqb places
  found-distinct = subst (IsDistinct eqb) (sym found.first)
      (distinct_from_rising (take wanted (free_sectors used)) (AreRising-take wanted (free_sectors used) (free_sectors-rising used)))

-- what was found, where as many as were wanted were found
found_enough : (used : List Bool) (places : List ℕ) (sector wanted : ℕ) → places ++ free_from sector (drop sector used) ≡ free_sectors used
    → length places ≡ wanted → AreFirstFree used wanted places
found_enough used places sector wanted found count = record {
  first = sym (take_at places (free_from sector (drop sector used)) wanted count) ∙ ap (take wanted) found;
  count = count;
}

-- what was found at the end of the pool, where there are enough
pub found_at_end : (used : List Bool) (places : List ℕ) (sector wanted : ℕ) → length used ≤ sector
    → places ++ free_from sector (drop sector used) ≡ free_sectors used → length places ≤ wanted → wanted ≤ count_by not used
    → AreFirstFree used wanted places
found_at_end used places sector wanted past found few enough =
    found_enough used places sector wanted found (omega (arith, few, enough, ap length all, length-free_sectors used))
  where
    none : free_from sector (drop sector used) ≡ []
    none = ap (free_from sector) (drop_all sector used past)

    all : places ≡ free_sectors used
    all = sym (append-nil places) ∙ ap (λ (behind : List ℕ). places ++ behind) (sym none) ∙ found
