-- What a machine means, what a legal history of it is, and what part of a history is a lane's own.
use Rattle.std.specs.Prelude.{◌≡◌, ℕ, ◌<◌, Bool, List, [], ◌∷◌, ◌++◌, if◌then◌else◌, ◌==◌}
use Rattle.machine_model.specs.declared.machine.Event.{Event}

-- a list of events, oldest first
abbrev pub History : Type 0 → Type 0 → Type 0
History S A = List (Event S A)

-- the meanings of a machine: M its values, B its bases, S its steps, A its answers
pub record Meaning (M B S A : Type 0) : Type 1 where
  pub base : M → B
  pub history : M → History S A
  pub spare : M → ℕ
  pub lane : S → ℕ
  pub fits : B → S → Type 0
  pub reply : B → History S A → S → A
  pub keeps : S → A → Bool

abbrev pub meaning : {M B S A : Type 0} → (M → B) → (M → History S A) → (M → ℕ) → (S → ℕ) → (B → S → Type 0) → (B → History S A → S → A)
    → (S → A → Bool) → Meaning M B S A
meaning base history spare lane fits reply keeps = record {
  base = base;
  history = history;
  spare = spare;
  lane = lane;
  fits = fits;
  reply = reply;
  keeps = keeps;
}

-- what a step with its answer adds to a history
abbrev pub kept_of : {S A : Type 0} → (S → A → Bool) → S → A → History S A
kept_of keeps step answer = if keeps step answer then record { step = step; answer = answer } ∷ [] else []

-- the events of one lane, in order
abbrev pub of_lane : {S A : Type 0} → (S → ℕ) → ℕ → History S A → History S A
of_lane lane l [] = []
of_lane lane l (e ∷ es) = if lane e.step == l then e ∷ of_lane lane l es else of_lane lane l es

-- each event is of one of the first n lanes
abbrev pub AreBelow : {S A : Type 0} → (S → ℕ) → ℕ → History S A → Type 0
AreBelow lane n [] = Unit {0}
AreBelow lane n (e ∷ es) = (lane e.step < n) × AreBelow lane n es

-- after `before`, each event's step fits the base and its answer is the one that the machine gives there
abbrev pub IsLegal : {B S A : Type 0} → (B → S → Type 0) → (B → History S A → S → A) → B → History S A → History S A → Type 0
IsLegal fits reply b before [] = Unit {0}
IsLegal fits reply b before (e ∷ es) = fits b e.step × (e.answer ≡ reply b before e.step) × IsLegal fits reply b (before ++ e ∷ []) es

-- a history begins with another
abbrev pub BeginsWith : {X : Type 0} → List X → List X → Type 0
BeginsWith {X} all front = (rest : List X) × (all ≡ front ++ rest)
