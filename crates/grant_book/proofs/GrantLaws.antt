-- The places of a grant that weren't taken.
use Rattle.std.proofs.Common.{◌≡◌, ℕ, zero, suc, ◌<◌, List, [], ◌∷◌, length, drop, Some, ap, sym, subst, arith}
use Rattle.std.specs.Prelude.{slice_get}

taken_next : (places : List ℕ) (taken place : ℕ) → slice_get (drop taken places) 0 ≡ Some place
    → (drop taken places ≡ place ∷ drop (suc taken) places) × (taken < length places)
taken_next [] zero place said = absurd (cc said)
taken_next [] (suc taken) place said = absurd (cc said)
taken_next (first ∷ places) zero place said = (ap (λ (n : ℕ). n ∷ places) (cc said), omega arith)
taken_next (first ∷ places) (suc taken) place said =
    let rest = taken_next places taken place said in (rest.0, omega (arith, rest.1))

-- the next of them comes first, and the others behind it
module _ (places : List ℕ) (taken next place : ℕ) (one : next ≡ suc taken) (said : slice_get (drop taken places) 0 ≡ Some place) where
  pub next_first : drop taken places ≡ place ∷ drop next places
  next_first = subst (λ (n : ℕ). drop taken places ≡ place ∷ drop n places) (sym one) (taken_next places taken place said).0

  pub next_within : taken < length places
  next_within = (taken_next places taken place said).1
