-- The blocks that a group stored, by their places.
use Rattle.std.proofs.Common.{◌≡◌, ℕ, ◌==◌, Bool, true, false, cond, List, [], ◌∷◌, map, Some, refl}
use Rattle.std.specs.List.{AllByRecursion, find}
use Rattle.std.specs.Option.{option_map}
use Rattle.pool_model.specs.declared.closed.StoredBlock.{StoredBlock}
use Rattle.pool_model.specs.Mirrors.{stored_of}

-- the block at a place is the one that code finds
pub find-stored : (cs : List StoredBlock) (place : ℕ)
    → find (λ s. s.place == place) (map stored_of cs) ≡ option_map stored_of (find (λ c. c.place == place) cs)
find-stored [] place = refl
find-stored (c ∷ cs) place =
    elim (c.place == place) as (λ b. cond b (Some (stored_of c)) (find (λ s. s.place == place) (map stored_of cs)) ≡ option_map stored_of
    (cond b (Some c) (find (λ d. d.place == place) cs))) [ true ↦ refl | false ↦ find-stored cs place ]

-- what each block has, the one that is found has
pub found_has : {X : Type 0} (P : X → Type 0) (test : X → Bool) (xs : List X) (x : X) → find test xs ≡ Some x → AllByRecursion P xs → P x
found_has P test [] x is all = absurd (cc is)
found_has P test (y ∷ ys) x is all =
    elim (test y) as (λ b. cond b (Some y) (find test ys) ≡ Some x → P x) [
      | true ↦ λ same. subst_in same
      | false ↦ λ later. found_has P test ys x later all.1
    ] is
  where
    subst_in : Some y ≡ Some x → P x
    subst_in same = let one : y ≡ x = cc same in rw (← one) all.0
