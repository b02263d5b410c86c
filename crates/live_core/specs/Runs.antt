-- What a list of steps comes to, whatever lanes they are of, kept or not.
use Rattle.std.specs.Prelude.{List, [], ◌∷◌, ◌++◌, fold}
use Rattle.machine_model.specs.Histories.{History, kept_of}
use Rattle.live_core.specs.declared.steps.Step.{Step}
use Rattle.live_core.specs.declared.steps.Answer.{Answer}
use Rattle.live_core.specs.declared.steps.Terms.{Terms}
use Rattle.live_core.specs.Cores.{CoreState, first_core, core_after, moved}
use Rattle.live_core.specs.Views.{keeps}

-- the state after the steps
abbrev pub core_of : Terms → List Step → CoreState
core_of terms steps = fold (core_after terms) (first_core terms) steps

-- of steps from a core on, those that are kept, with their answers
abbrev pub kept_from : Terms → CoreState → List Step → History Step Answer
kept_from terms core [] = []
kept_from terms core (step ∷ steps) =
    kept_of keeps step (moved terms core step).answer ++ kept_from terms (core_after terms core step) steps

-- the history that the steps leave
abbrev pub history_of : Terms → List Step → History Step Answer
history_of terms steps = kept_from terms (first_core terms) steps
