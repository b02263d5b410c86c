-- Which sectors are used once others were marked.
use Rattle.std.proofs.Common.{◌≡◌, ℕ, zero, suc, ◌+◌, ◌<◌, ◌≤◌, Bool, true, false, not, ◌||◌, ◌==◌, cond, List, [], ◌∷◌, length, get_or, set, refl, sym, ap, ⊎_elim, ◌∙◌, arith}
use Rattle.std.specs.Prelude.{nat_lt, slice_index_or}
use Rattle.std.specs.List.{list_any, count_by}
use Rattle.std.proofs.lemmas.Bool.{ltb-true, lt-ltb}
use Rattle.std.proofs.lemmas.Bool.Decides.{eqb_tells, nat_tests}
use Rattle.std.proofs.lemmas.List.{length-set, get_or-set_same, get_or-set_other, get_or_past}
use Rattle.std.proofs.lemmas.List.Sums.{sum_by-cons}
use Rattle.std.proofs.lemmas.List.FromFn.{length-map-range_with_len, get_or-map-range_with_len}
use Rattle.grant_book.specs.Sectors.{marked, ring_used}

or_true : (b : Bool) → (b || true) ≡ true
or_true true = refl
or_true false = refl

or_false : (b : Bool) → (b || false) ≡ b
or_false true = refl
or_false false = refl

or_swap : (a b c : Bool) → ((a || b) || c) ≡ (a || (b || c))
or_swap true b c = refl
or_swap false b c = refl

-- ---- One sector more

-- marks leave as many notes as there were
pub length-marked : (sectors : List ℕ) (used : List Bool) → length (marked used sectors) ≡ length used
length-marked [] used = refl
length-marked (sector ∷ sectors) used = length-marked sectors (set used sector true) ∙ length-set used sector true

-- one sector more is used
pub set_used : (used : List Bool) (sector at : ℕ) (default : Bool) → at < length used
    → get_or (set used sector true) at default ≡ (get_or used at default || (sector == at))
set_used used sector at default within =
    ⊎_elim
    (λ same. let here : sector < length used = omega (arith, same.1) in
    ap (λ n. get_or (set used sector true) n default) (sym same.1) ∙ get_or-set_same used sector true default here
    ∙ sym (ap (λ b. get_or used at default || b) same.0 ∙ or_true (get_or used at default)))
    (λ other. get_or-set_other used sector at true default (λ e. other.1 (sym e))
    ∙ sym (ap (λ b. get_or used at default || b) other.0 ∙ or_false (get_or used at default)))
    (eqb_tells sector at)

-- ---- Many

-- a sector is used after others were marked where it was used, or is one of them
pub marked-at : (sectors : List ℕ) (used : List Bool) (at : ℕ) (default : Bool) → at < length used
    → get_or (marked used sectors) at default ≡ (get_or used at default || list_any (λ sector. sector == at) sectors)
marked-at [] used at default within = sym (or_false (get_or used at default))
marked-at (sector ∷ sectors) used at default within =
    let yet : at < length (set used sector true) = omega (arith, length-set used sector true) in
    marked-at sectors (set used sector true) at default yet
    ∙ ap (λ b. b || list_any (λ s. s == at) sectors) (set_used used sector at default within)
    ∙ or_swap (get_or used at default) (sector == at) (list_any (λ s. s == at) sectors)

-- ---- How many are free

-- a sector in front that isn't used is one more that is free
pub free_cons : (is_used : Bool) (used : List Bool) → count_by not (is_used ∷ used) ≡ cond (not is_used) 1 0 + count_by not used
free_cons is_used used = sum_by-cons (λ b. cond (not b) 1 0) is_used used

-- one sector more that is used leaves at most one fewer free
free_set : (used : List Bool) (sector : ℕ) → count_by not used ≤ count_by not (set used sector true) + 1
free_set [] sector = omega arith
free_set (true ∷ used) zero = omega arith
free_set (false ∷ used) zero = omega (arith, free_cons false used, free_cons true used)
free_set (is_used ∷ used) (suc sector) = omega
    (arith, free_cons is_used used, free_cons is_used (set used sector true), free_set used sector)

-- marks leave at most as many fewer free as there are
pub free_marked : (sectors : List ℕ) (used : List Bool) → count_by not used ≤ count_by not (marked used sectors) + length sectors
free_marked [] used = omega arith
free_marked (sector ∷ sectors) used = omega (arith, free_marked sectors (set used sector true), free_set used sector)

-- ---- The ring

pub length-ring_used : (sectors : ℕ) → length (ring_used sectors) ≡ sectors
length-ring_used sectors = length-map-range_with_len (λ sector. nat_lt sector 32) 0 sectors

pub ring_used-at : (sectors at : ℕ) (default : Bool) → at < sectors → get_or (ring_used sectors) at default ≡ nat_lt at 32
ring_used-at sectors at default within = get_or-map-range_with_len (λ sector. nat_lt sector 32) 0 sectors at at default within (omega arith)

-- the ring's sectors are used in a pool of any size
pub ring_is_used : (sectors sector : ℕ) → sector < 32 → slice_index_or (ring_used sectors) sector true ≡ true
ring_is_used sectors sector first = by_order (nat_lt sector sectors) refl
  where
    by_order : (b : Bool) → nat_lt sector sectors ≡ b → slice_index_or (ring_used sectors) sector true ≡ true
    by_order true within = ring_used-at sectors sector true (ltb-true sector sectors within) ∙ lt-ltb sector 32 first
    by_order false past =
        let none : sectors ≤ sector = grind (arith, nat_tests) in
        get_or_past (ring_used sectors) sector true (omega (arith, none, length-ring_used sectors))
