-- Lists of blocks and of notes: what is found in them when one more comes.
use Rattle.std.proofs.Common.{◌≡◌, ℕ, ◌<◌, ◌==◌, ◌||◌, Bool, true, false, cond, List, [], ◌∷◌, ◌++◌, length, Some, None, refl, sym, ap}
use Rattle.std.proofs.Common.{zero, suc, ◌∙◌, arith, inl, inr, ⊎_elim}
use Rattle.std.specs.Prelude.{slice_index_or}
use Rattle.std.specs.List.{AllByRecursion, find, list_any}
use Rattle.std.proofs.lemmas.Bool.{ne_eqb}
use Rattle.pool_model.specs.Mirrors.{Stored}
use Rattle.table_state.specs.Closing.{IsNamed}

-- one that fails changes nothing of what is found
pub find_beside : {X : Type 0} (test : X → Bool) (xs : List X) (x : X) → test x ≡ false → find test (xs ++ x ∷ []) ≡ find test xs
find_beside test [] x fails = ap (λ b. cond b (Some x) None) fails
find_beside test (y ∷ ys) x fails = ap (λ o. cond (test y) (Some y) o) (find_beside test ys x fails)

-- where none was found, one that passes is found
pub find_new : {X : Type 0} (test : X → Bool) (xs : List X) (x : X) → list_any test xs ≡ false → test x ≡ true
    → find test (xs ++ x ∷ []) ≡ Some x
find_new test [] x none passes = ap (λ b. cond b (Some x) None) passes
find_new test (y ∷ ys) x none passes =
    elim (test y) as (λ b. (b || list_any test ys) ≡ false → cond b (Some y) (find test (ys ++ x ∷ [])) ≡ Some x)
    [ true ↦ λ no. absurd (cc no) | false ↦ λ rest. find_new test ys x rest passes ] none

-- where each fails, none is found
pub find_none : {X : Type 0} (test : X → Bool) (xs : List X) → AllByRecursion (λ x. test x ≡ false) xs → find test xs ≡ None
find_none test [] fail = refl
find_none test (x ∷ xs) fail = ap (λ b. cond b (Some x) (find test xs)) fail.0 ∙ find_none test xs fail.1

-- one more passes too, or is the new one
pub any_more : {X : Type 0} (test : X → Bool) (xs : List X) (x : X) → list_any test xs ≡ true → list_any test (xs ++ x ∷ []) ≡ true
any_more test [] x some = absurd (cc some)
any_more test (y ∷ ys) x some =
    elim (test y) as (λ b. (b || list_any test ys) ≡ true → (b || list_any test (ys ++ x ∷ [])) ≡ true) [
      | true ↦ λ _. refl
      | false ↦ λ rest. any_more test ys x rest
    ] some

pub any_last : {X : Type 0} (test : X → Bool) (xs : List X) (x : X) → test x ≡ true → list_any test (xs ++ x ∷ []) ≡ true
any_last test [] x passes = ap (λ b. b || false) passes
any_last test (y ∷ ys) x passes =
    elim (test y) as (λ b. (b || list_any test (ys ++ x ∷ [])) ≡ true) [ true ↦ refl | false ↦ any_last test ys x passes ]

-- a note that is missing where one is not used isn't a used one
pub not_used : (used : List Bool) (place : ℕ) → slice_index_or used place true ≡ false → slice_index_or used place false ≡ true → ⊥
not_used [] place free taken = absurd (cc free)
not_used (b ∷ used) zero free taken = absurd (cc (free, taken))
not_used (b ∷ used) (suc place) free taken = not_used used place free taken

pub used_either : (used : List Bool) (place : ℕ) → place < length used → slice_index_or used place true ≡ slice_index_or used place false
used_either [] place below = absurd (omega (arith, below))
used_either (b ∷ used) zero below = refl
used_either (b ∷ used) (suc place) below = used_either used place (omega (arith, below))

-- a place that neither the pool nor the group uses
pub record IsNew (used : List Bool) (contents : List Stored) (place : ℕ) : Type 0 where
  pub unused : slice_index_or used place true ≡ false
  pub no_block : list_any (λ stored. stored.place == place) contents ≡ false

-- is no place that has a name
pub new_elsewhere : (used : List Bool) (contents : List Stored) (place other : ℕ) → IsNew used contents place → IsNamed used contents other
    → (place == other) ≡ false
new_elsewhere used contents place other is named = ne_eqb place other (λ back. let same : other ≡ place = sym back in elim named [
  | inl taken ↦ not_used used place is.unused (ap (λ x. slice_index_or used x false) (sym same) ∙ taken)
  | inr some ↦ clash (sym is.no_block ∙ ap (λ x. list_any (λ stored. stored.place == x) contents) (sym same) ∙ some)
])
  where
    clash : false ≡ true → ⊥
    clash same = cc same

-- a place that has a name has it when a block more comes
pub named_more : (used : List Bool) (contents : List Stored) (stored : Stored) (place : ℕ) → IsNamed used contents place
    → IsNamed used (contents ++ stored ∷ []) place
named_more used contents stored place named =
    ⊎_elim (λ taken. inl taken) (λ some. inr (any_more (λ s. s.place == place) contents stored some)) named
