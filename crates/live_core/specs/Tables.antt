-- What the table of a core's keys has to do with its history.
use Rattle.std.specs.Prelude.{◌≡◌, ℕ, ◌+◌, ◌≤◌, List, length, slice_index_or}
use Rattle.machine_model.specs.Histories.{History}
use Rattle.live_core.specs.declared.steps.KeyState.{KeyState}
use Rattle.live_core.specs.declared.steps.KeyState.TheVariants.{Idle}
use Rattle.live_core.specs.declared.steps.Step.{Step}
use Rattle.live_core.specs.declared.steps.Step.TheVariants.{Claim, Loaded, Failed, Ref, Unref}
use Rattle.live_core.specs.declared.steps.Answer.{Answer}
use Rattle.live_core.specs.declared.steps.Terms.{Terms}
use Rattle.live_core.specs.Moves.{count_in, references, on_disk}
use Rattle.live_core.specs.Cores.{core_at}

-- the states are those after the history
abbrev pub AreStates : Terms → History Step Answer → List KeyState → Type 0
AreStates terms history states = (key : ℕ) → slice_index_or states key Idle ≡ (core_at terms history).states key

-- as many as a home has, or a group's table, before any event
abbrev pub most_before : ℕ
most_before = 1_048_576

-- no count has risen by more than the events
abbrev pub AreSmall : Terms → History Step Answer → Type 0
AreSmall terms history = (key : ℕ) → count_in ((core_at terms history).states key) ≤ most_before + length history

-- a home that is handed in has no larger count than a table's
abbrev pub IsSmallLoad : Step → Type 0
IsSmallLoad (Claim lane key) = Unit {0}
IsSmallLoad (Loaded lane key home) = references (on_disk home) ≤ most_before
IsSmallLoad (Failed lane key) = Unit {0}
IsSmallLoad (Ref lane index key verdict place) = Unit {0}
IsSmallLoad (Unref lane index key place birth) = Unit {0}
