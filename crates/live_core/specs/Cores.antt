-- The state of a group's keys after a history, and the answer to a step there.
use Rattle.std.specs.Prelude.{ℕ, ◌==◌, nat_lt, fold, if◌then◌else◌}
use Rattle.machine_model.specs.Histories.{History}
use Rattle.live_core.specs.declared.steps.KeyState.{KeyState}
use Rattle.live_core.specs.declared.steps.KeyState.TheVariants.{Idle}
use Rattle.live_core.specs.declared.steps.Step.{Step}
use Rattle.live_core.specs.declared.steps.Answer.{Answer}
use Rattle.live_core.specs.declared.steps.Terms.{Terms}
use Rattle.live_core.specs.declared.moves.Move.{Move}
use Rattle.live_core.specs.Moves.{stray, move_of, key_in}

-- the state of each key, by its number, and how many homes have a count above 0
pub record CoreState : Type 0 where
  pub states : ℕ → KeyState
  pub homes : ℕ

abbrev pub put : (at : ℕ) → KeyState → (ℕ → KeyState) → ℕ → KeyState
put at state states key = if key == at then state else states key

-- before the first step
abbrev pub first_core : Terms → CoreState
first_core terms = record { states = λ key. Idle; homes = terms.homes }

-- what a step comes to: by the table, or Stray at a key that the group doesn't have
abbrev pub moved : Terms → CoreState → Step → Move
moved terms core step =
    if nat_lt (key_in step) terms.keys then move_of terms step (core.states (key_in step)) core.homes
    else stray (core.states (key_in step)) core.homes

abbrev pub core_after : Terms → CoreState → Step → CoreState
core_after terms core step =
    record { states = put (key_in step) (moved terms core step).state core.states; homes = (moved terms core step).homes }

-- the state after a history
abbrev pub core_at : Terms → History Step Answer → CoreState
core_at terms history = fold (λ core event. core_after terms core event.step) (first_core terms) history

-- the answer to a step after a history
abbrev pub answer_at : Terms → History Step Answer → Step → Answer
answer_at terms history step = (moved terms (core_at terms history) step).answer
