-- Places where a chain can stand: what being open says of them.
use Rattle.std.proofs.Common.{◌≡◌, ◌≢◌, ℕ, ◌<◌, ◌≤◌, true, false, ◌&&◌, ◌==◌, List, [], ◌∷◌, ◌++◌, length, refl, sym, subst, ◌∙◌, append_assoc, ⊎_elim, arith, eqb, eq-eqb, eqb-true}
use Rattle.std.specs.Prelude.{nat_le, nat_lt, not}
use Rattle.std.specs.List.{list_any, AllByRecursion, IsDistinct}
use Rattle.std.proofs.lemmas.Bool.{and_parts, and_from, both_ways, leb-true, ltb-true, le-leb, lt-ltb, not-true, not_from_false, or_left, or_right, or_from, or_cases, ne_eqb}
use Rattle.std.proofs.lemmas.List.{append-nil}
use Rattle.std.proofs.lemmas.List.Folds.{list_any-append}
use Rattle.std.proofs.lemmas.Map.Steps.{length-le_from_distinct_below}
use Rattle.page_tree.specs.Chains.{is_open_to}
use Rattle.page_tree.specs.ChainWrites.{AreOpen}

-- what holds of each item of a list
pub all_mapped : {X : Type 0} (P Q : X → Type 0) → ((x : X) → P x → Q x) → (xs : List X) → AllByRecursion P xs → AllByRecursion Q xs
all_mapped P Q each [] all = tt
all_mapped P Q each (x ∷ xs) all = (each x all.0, all_mapped P Q each xs all.1)

-- what is known of a place that is open
pub record IsOpen (sectors : ℕ) (named : List ℕ) (place : ℕ) : Type 0 where
  pub from : 32 ≤ place
  pub below : place < sectors
  pub fresh : list_any (λ other. other == place) named ≡ false

pub is_open-parts : (sectors : ℕ) (named : List ℕ) (place : ℕ) → is_open_to sectors named place ≡ true → IsOpen sectors named place
is_open-parts sectors named place is_open =
    let both = and_parts (nat_le 32 place && nat_lt place sectors) (not (list_any (λ other. other == place) named)) is_open in
    let range = and_parts (nat_le 32 place) (nat_lt place sectors) both.0 in
    record { from = leb-true 32 place range.0; below = ltb-true place sectors range.1; fresh = not-true _ both.1 }

-- open places are none of those that are named
pub apart_from_named : (sectors : ℕ) (named places : List ℕ) (sector : ℕ) → list_any (λ other. other == sector) named ≡ true
    → AreOpen sectors named places → AllByRecursion (λ place. place ≢ sector) places
apart_from_named sectors named [] sector found all = tt
apart_from_named sectors named (place ∷ places) sector found all = (
  λ same. both_ways (list_any (λ other. other == place) named) (is_open-parts sectors named place all.0).fresh
      (subst (λ s. list_any (λ other. other == s) named ≡ true) (sym same) found),
  apart_from_named sectors (named ++ place ∷ []) places sector
      (list_any-append (λ other. other == sector) named (place ∷ []) ∙ or_left _ _ found) all.1,
)

-- and open places stand each once
pub apart_from_first : (sectors : ℕ) (named : List ℕ) (place : ℕ) (places : List ℕ) → AreOpen sectors (named ++ place ∷ []) places
    → AllByRecursion (λ other. other ≢ place) places
apart_from_first sectors named place places all =
    apart_from_named sectors (named ++ place ∷ []) places place
    (list_any-append (λ other. other == place) named (place ∷ []) ∙ or_right _ _ (or_left _ _ (eq-eqb place place refl)))
    all

-- open places are on the disk
pub open_places-below : (sectors limit : ℕ) (named places : List ℕ) → sectors ≤ limit → AreOpen sectors named places
    → AllByRecursion (λ place. place < limit) places
open_places-below sectors limit named [] within all = tt
open_places-below sectors limit named (place ∷ places) within all =
    let here = (is_open-parts sectors named place all.0).below in
    (omega arith, open_places-below sectors limit (named ++ place ∷ []) places within all.1)

-- none is another
pub open_places-distinct : (sectors : ℕ) (named places : List ℕ) → AreOpen sectors named places → IsDistinct eqb places
unfolding IsDistinct
open_places-distinct sectors named [] all = tt
open_places-distinct sectors named (place ∷ places) all = (
  all_mapped (λ other. other ≢ place) (λ other. eqb place other ≡ false)
      (λ other apart. ne_eqb place other (λ same. apart (sym same))) places (apart_from_first sectors named place places all.1),
  open_places-distinct sectors (named ++ place ∷ []) places all.1,
)

-- what holds of each number of a list holds of one that is found there
found_below : (limit : ℕ) (numbers : List ℕ) (number : ℕ) → AllByRecursion (λ n. n < limit) numbers → list_any (eqb number) numbers ≡ true
    → number < limit
found_below limit [] number all found = absurd (cc found)
found_below limit (first ∷ numbers) number all found =
    ⊎_elim (λ here. subst (λ n. n < limit) (sym (eqb-true number first here)) all.0)
    (λ behind. found_below limit numbers number all.1 behind) (or_cases (eqb number first) (list_any (eqb number) numbers) found)

-- so they are fewer than the sectors of the disk, of which the first is none of them
pub open_places-fewer : (sectors : ℕ) (named places : List ℕ) → 0 < sectors → AreOpen sectors named places → length places < sectors
unfolding IsDistinct
open_places-fewer sectors named places some all =
    let count = length-le_from_distinct_below (0 ∷ places) sectors
    (not_first named places all, open_places-distinct sectors named places all)
    (λ number. found_below sectors (0 ∷ places) number (some, open_places-below sectors sectors named places (omega arith) all)) in
    omega (arith, count)
  where
    not_first : (ns ps : List ℕ) → AreOpen sectors ns ps → AllByRecursion (λ place. eqb 0 place ≡ false) ps
    not_first ns [] all_open = tt
    not_first ns (place ∷ ps) all_open =
        let here = (is_open-parts sectors ns place all_open.0).from in
        (ne_eqb 0 place (λ same. omega (arith, same, here)), not_first (ns ++ place ∷ []) ps all_open.1)

-- a place is open by these parts
pub is_open-from : (sectors : ℕ) (named : List ℕ) (place : ℕ) → IsOpen sectors named place → is_open_to sectors named place ≡ true
is_open-from sectors named place is =
    and_from (nat_le 32 place && nat_lt place sectors) (not (list_any (λ other. other == place) named))
    (and_from (nat_le 32 place) (nat_lt place sectors) (le-leb 32 place is.from) (lt-ltb place sectors is.below))
    (not_from_false _ is.fresh)

-- distinct places that are each open are open one behind the other
pub open_places-from : (sectors : ℕ) (named places : List ℕ) → AllByRecursion (IsOpen sectors named) places → IsDistinct eqb places
    → AreOpen sectors named places
unfolding IsDistinct
open_places-from sectors named [] all distinct = tt
open_places-from sectors named (place ∷ places) all distinct =
    (is_open-from sectors named place all.0, open_places-from sectors (named ++ place ∷ []) places (behind places all.1 distinct.0) distinct.1)
  where
    behind : (ps : List ℕ) → AllByRecursion (IsOpen sectors named) ps → AllByRecursion (λ other. eqb place other ≡ false) ps
        → AllByRecursion (IsOpen sectors (named ++ place ∷ [])) ps
    behind [] is apart = tt
    behind (p ∷ ps) is apart = (
      record {
        from = is.0.from;
        below = is.0.below;
        fresh = list_any-append (λ other. other == p) named (place ∷ []) ∙ or_from _ _ is.0.fresh (or_from _ _ apart.0 refl);
      },
      behind ps is.1 apart.1,
    )

-- open places are two parts, the second open behind the first
pub open_places-parts : (sectors : ℕ) (named first second : List ℕ) → AreOpen sectors named (first ++ second)
    → AreOpen sectors named first × AreOpen sectors (named ++ first) second
open_places-parts sectors named [] second all = (tt, subst (λ (ns : List ℕ). AreOpen sectors ns second) (sym (append-nil named)) all)
open_places-parts sectors named (place ∷ first) second all =
    let parts = open_places-parts sectors (named ++ place ∷ []) first second all.1 in
    ((all.0, parts.0), subst (λ (ns : List ℕ). AreOpen sectors ns second) (append_assoc named (place ∷ []) first) parts.1)
