-- Laws of a book of sectors: what giving out, giving back, releasing and settling leave of it.
use Rattle.std.proofs.Common.{◌≡◌, ℕ, zero, suc, ◌+◌, ◌<◌, ◌≤◌, Bool, true, false, not, ◌⊎◌, cond, List, [], ◌∷◌, ◌++◌, inl, inr, length, take, drop, replicate, refl, sym, ap, subst, ⊎_elim, ◌∙◌, arith}
use Rattle.std.specs.Prelude.{nat_lt, slice_index_or, slice_set}
use Rattle.std.specs.List.{count_by, AllByRecursion}
use Rattle.std.proofs.lemmas.Bool.{false≢true, lt-ltb}
use Rattle.std.proofs.lemmas.List.{append-nil, drop_all, take_at, length-set, length-append, get_or-set_same}
use Rattle.std.proofs.lemmas.List.FromFn.{fill_by_all}
use Rattle.grant_book.specs.Sectors.{free_from, free_sectors, marked, AreFirstFree}
use Rattle.grant_book.specs.Book.{is_kept, kept, IsTaken, IsBook}
use Rattle.grant_book.proofs.FreeLaws.{length-free_sectors, free_from-free, IsFree, IsFreeFrom, found-free}
use Rattle.grant_book.proofs.MarkLaws.{length-marked, free_cons}

-- ---- Where a note says something

-- a sector that is used stays used where another one is
pub still_used : (used : List Bool) (sector at : ℕ) → slice_index_or used at false ≡ true
    → slice_index_or (slice_set used sector true) at false ≡ true
still_used [] sector at said = said
still_used (is_used ∷ used) zero zero said = refl
still_used (is_used ∷ used) zero (suc at) said = said
still_used (is_used ∷ used) (suc sector) zero said = said
still_used (is_used ∷ used) (suc sector) (suc at) said = still_used used sector at said

pub marked-keeps : (sectors : List ℕ) (used : List Bool) (at : ℕ) → slice_index_or used at false ≡ true
    → slice_index_or (marked used sectors) at false ≡ true
marked-keeps [] used at said = said
marked-keeps (sector ∷ sectors) used at said = marked-keeps sectors (slice_set used sector true) at (still_used used sector at said)

-- a sector that is noted is the one whose note is taken away, or is noted then
pub unset_before : (notes : List Bool) (at sector : ℕ) → slice_index_or notes sector false ≡ true
    → (sector ≡ at) ⊎ (slice_index_or (slice_set notes at false) sector false ≡ true)
unset_before [] at sector said = inr said
unset_before (note ∷ notes) zero zero said = inl refl
unset_before (note ∷ notes) zero (suc sector) said = inr said
unset_before (note ∷ notes) (suc at) zero said = inr said
unset_before (note ∷ notes) (suc at) (suc sector) said =
    ⊎_elim (λ same. inl (ap suc same)) (λ there. inr there) (unset_before notes at sector said)

-- a used sector that is given back is one more that is free
pub free_unset : (used : List Bool) (sector : ℕ) → slice_index_or used sector false ≡ true
    → count_by not (slice_set used sector false) ≡ count_by not used + 1
free_unset [] sector said = absurd (false≢true said)
free_unset (true ∷ used) zero said = omega (arith, free_cons false used, free_cons true used)
free_unset (false ∷ used) zero said = absurd (false≢true said)
free_unset (is_used ∷ used) (suc sector) said = omega
    (arith, free_unset used sector said, free_cons is_used used, free_cons is_used (slice_set used sector false))

-- each of those that are marked is used
pub each_marked : (sectors : List ℕ) (used : List Bool) → AllByRecursion (λ sector. sector < length used) sectors
    → AllByRecursion (λ sector. slice_index_or (marked used sectors) sector false ≡ true) sectors
each_marked [] used within = tt
each_marked (sector ∷ sectors) used within = (
  marked-keeps sectors (slice_set used sector true) sector (get_or-set_same used sector true false within.0),
  each_marked sectors (slice_set used sector true) (still_within sectors within.1),
)
  where
    still_within : (more : List ℕ) → AllByRecursion (λ s. s < length used) more
        → AllByRecursion (λ s. s < length (slice_set used sector true)) more
    still_within [] all = tt
    still_within (s ∷ more) all = (omega (arith, all.0, length-set used sector true), still_within more all.1)

-- one more that is marked
pub marked-push : (places : List ℕ) (start : List Bool) (sector : ℕ)
    → marked start (places ++ sector ∷ []) ≡ slice_set (marked start places) sector true
marked-push [] start sector = refl
marked-push (place ∷ places) start sector = marked-push places (slice_set start place true) sector

-- ---- The first free sector

drop_set : (used : List Bool) (sector : ℕ) → drop (suc sector) (slice_set used sector true) ≡ drop (suc sector) used
drop_set [] sector = refl
drop_set (is_used ∷ used) zero = refl
drop_set (is_used ∷ used) (suc sector) = drop_set used sector

-- a number isn't among the free sectors from a later one on
never_first : (n m : ℕ) (xs : List ℕ) (used : List Bool) → n < m → n ∷ xs ≡ free_from m used → ⊥
never_first n m xs used below same =
    let first : AllByRecursion (IsFreeFrom m used) (n ∷ xs) =
    subst (AllByRecursion (IsFreeFrom m used)) (sym same) (free_from-free m used) in
    omega (arith, first.0.from, below)

-- where no sector in front of it is free, a sector that is used now is no more among the free ones
use_first : (first : ℕ) (used : List Bool) (low : ℕ) → free_from first used ≡ free_from (first + low) (drop low used)
    → low < length used → slice_index_or used low false ≡ false
    → free_from first (slice_set used low true) ≡ free_from (first + suc low) (drop (suc low) used)
use_first first [] low is within free = absurd (omega (arith, within))
use_first first (is_used ∷ used) zero is within free = ap (λ n. free_from n used) (omega arith)
use_first first (true ∷ used) (suc low) is within free =
    use_first (first + 1) used low (is ∙ ap (λ n. free_from n (drop low used)) (omega arith)) (omega (arith, within)) free
    ∙ ap (λ n. free_from n (drop (suc low) used)) (omega arith)
use_first first (false ∷ used) (suc low) is within free =
    absurd (never_first first (first + suc low) (free_from (first + 1) used) (drop low used) (omega arith) is)

-- where no sector below a first one is free, none below both that one and a sector that is free from now on is
pub unset_low : (first : ℕ) (used : List Bool) (low place m : ℕ) → m ≤ low → m ≤ place
    → free_from first used ≡ free_from (first + low) (drop low used)
    → free_from first (slice_set used place false) ≡ free_from (first + m) (drop m (slice_set used place false))
unset_low first used low place zero below before is = ap (λ n. free_from n (slice_set used place false)) (omega arith)
unset_low first used zero place (suc m) below before is = absurd (omega (arith, below))
unset_low first used (suc low) zero (suc m) below before is = absurd (omega (arith, before))
unset_low first [] (suc low) (suc place) (suc m) below before is = refl
unset_low first (true ∷ used) (suc low) (suc place) (suc m) below before is =
    unset_low (first + 1) used low place m (omega (arith, below)) (omega (arith, before))
    (is ∙ ap (λ n. free_from n (drop low used)) (omega arith))
    ∙ ap (λ n. free_from n (drop m (slice_set used place false))) (omega arith)
unset_low first (false ∷ used) (suc low) (suc place) (suc m) below before is =
    absurd (never_first first (first + suc low) (free_from (first + 1) used) (drop low used) (omega arith) is)

-- once a free sector in front of which none is free is used, the free ones are those behind it
pub taken_low : (used : List Bool) (sector next : ℕ) → next ≡ suc sector → sector < length used → slice_index_or used sector false ≡ false
    → free_sectors used ≡ free_from sector (drop sector used)
    → free_sectors (slice_set used sector true) ≡ free_from next (drop next (slice_set used sector true))
taken_low used sector next one within free is =
    subst (λ (n : ℕ). free_sectors (slice_set used sector true) ≡ free_from n (drop n (slice_set used sector true))) (sym one)
    (use_first 0 used sector (is ∙ ap (λ n. free_from n (drop sector used)) (omega arith)) within free
    ∙ ap (λ n. free_from n (drop (suc sector) used)) (omega arith)
    ∙ sym (ap (free_from (suc sector)) (drop_set used sector)))

-- ---- Places that were found

-- what was found, where as many as were wanted were found, and the rest is free then
module _ (used now : List Bool) (places : List ℕ) (sector wanted : ℕ)
    (found : places ++ free_from sector (drop sector now) ≡ free_sectors used)
    (low : free_sectors now ≡ free_from sector (drop sector now)) where
  pub taken_enough : length places ≡ wanted → AreFirstFree used wanted places
  taken_enough count = record {
    first = sym (take_at places (free_from sector (drop sector now)) wanted count) ∙ ap (take wanted) found;
    count = count;
  }

  pub taken_left : length places ≡ wanted → count_by not now + wanted ≡ count_by not used
  taken_left count = omega (
    arith,
    count,
    length-append places (free_from sector (drop sector now)),
    ap length found,
    ap length low,
    length-free_sectors used,
    length-free_sectors now,
  )

  pub taken_all : length now ≤ sector → length places ≤ wanted → wanted ≤ count_by not used → length places ≡ wanted
  taken_all past few enough = omega (arith, few, enough, ap length all, length-free_sectors used)
    where
      none : free_from sector (drop sector now) ≡ []
      none = ap (free_from sector) (drop_all sector now past)

      all : places ≡ free_sectors used
      all = sym (append-nil places) ∙ ap (λ (behind : List ℕ). places ++ behind) (sym none) ∙ found

-- ---- A book

-- a book of sectors of which nothing is pending
pub book_of : (used pending : List Bool) (free : ℕ) → pending ≡ replicate (length used) false → free ≡ count_by not used
    → IsBook used pending free 0
book_of used pending free none count = record {
  alike = ap length none ∙ length_replicated (length used);
  free_is = count;
  low_is = refl;
  held = λ sector said. absurd (false≢true (sym (nothing (length used) sector)
      ∙ ap (λ (notes : List Bool). slice_index_or notes sector false) (sym none) ∙ said));
}
  where
    length_replicated : (n : ℕ) → length (replicate n false) ≡ n
    length_replicated zero = refl
    length_replicated (suc n) = omega (arith, length_replicated n)

    nothing : (n sector : ℕ) → slice_index_or (replicate n false) sector false ≡ false
    nothing zero sector = refl
    nothing (suc n) zero = refl
    nothing (suc n) (suc sector) = nothing n sector

module _ (used pending : List Bool) (free low : ℕ) (is : IsBook used pending free low) where
  -- what is given out is used, and isn't pending
  pub granted_book : (wanted : ℕ) (places : List ℕ) (now : List Bool) (left next : ℕ) → now ≡ marked used places
      → count_by not now + wanted ≡ count_by not used → left + wanted ≡ free → free_sectors now ≡ free_from next (drop next now)
      → IsBook now pending left next
  granted_book wanted places now left next then count fewer is_low = record {
    alike = is.alike ∙ sym (ap length then ∙ length-marked places used);
    free_is = omega (arith, count, fewer, is.free_is);
    low_is = is_low;
    held = λ sector said. subst (λ (notes : List Bool). slice_index_or notes sector false ≡ true) (sym then)
        (marked-keeps places used sector (is.held sector said));
  }

  not_pending : (place : ℕ) → slice_index_or used place false ≡ false → slice_index_or pending place false ≡ false
  not_pending place free_now = by_note (slice_index_or pending place false) refl
    where
      by_note : (b : Bool) → slice_index_or pending place false ≡ b → slice_index_or pending place false ≡ false
      by_note true said = absurd (false≢true (sym free_now ∙ is.held place said))
      by_note false said = said

  pub granted_taken : (wanted : ℕ) (places : List ℕ) → AreFirstFree used wanted places
      → AllByRecursion (IsTaken (marked used places) pending) places
  granted_taken wanted places first = each places (each_marked places used (within places free_places)) free_places
    where
      free_places : AllByRecursion (IsFree used) places
      free_places = found-free used wanted places first

      within : (sectors : List ℕ) → AllByRecursion (IsFree used) sectors → AllByRecursion (λ sector. sector < length used) sectors
      within [] all = tt
      within (sector ∷ sectors) all = (all.0.within, within sectors all.1)

      each : (sectors : List ℕ) → AllByRecursion (λ sector. slice_index_or (marked used places) sector false ≡ true) sectors
          → AllByRecursion (IsFree used) sectors → AllByRecursion (IsTaken (marked used places) pending) sectors
      each [] marks all = tt
      each (sector ∷ sectors) marks all = (
        record { is_used = marks.0; stays = not_pending sector (all.0.free false) },
        each sectors marks.1 all.1,
      )

  -- ---- A place that is given back

  pub given_book : (place m : ℕ) → m ≤ low → m ≤ place → slice_index_or pending place false ≡ false
      → slice_index_or used place false ≡ true → IsBook (slice_set used place false) pending (free + 1) m
  given_book place m below before stays here = record {
    alike = is.alike ∙ sym (length-set used place false);
    free_is = omega (arith, is.free_is, free_unset used place here);
    low_is =
        unset_low 0 used low place m below before (is.low_is ∙ ap (λ n. free_from n (drop low used)) (omega arith))
        ∙ ap (λ n. free_from n (drop m (slice_set used place false))) (omega arith);
    held = λ sector said. ⊎_elim
        (λ same. absurd (false≢true (sym stays ∙ ap (λ at. slice_index_or pending at false) (sym same) ∙ said))) (λ there. there)
        (unset_before used place sector (is.held sector said));
  }

-- ---- What is kept

-- the sectors up to one are kept, and those from it on are as they were
pub record IsKeptTo (old pending now : List Bool) (sector : ℕ) : Type 0 where
  pub alike : length now ≡ length old
  pub notes : (k : ℕ) → slice_index_or now k false ≡ cond (nat_lt k sector) (is_kept old pending k) (slice_index_or old k false)

-- all of them
pub kept_all : (old pending now : List Bool) (sector : ℕ) → IsKeptTo old pending now sector → length old ≤ sector → now ≡ kept old pending
kept_all old pending now sector is past =
    fill_by_all (is_kept old pending) now (length old) false is.alike
    (λ k within. is.notes k ∙ ap (λ b. cond b (is_kept old pending k) (slice_index_or old k false))
    (lt-ltb k sector (omega (arith, within, past))))
