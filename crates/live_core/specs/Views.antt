-- A core as callers see it.
use Rattle.std.specs.Prelude.{ℕ, Bool}
use Rattle.machine_model.specs.Histories.{History}
use Rattle.live_core.specs.declared.steps.Step.{Step}
use Rattle.live_core.specs.declared.steps.Answer.{Answer}
use Rattle.live_core.specs.Moves.{is_kept}
use Rattle.live_core.specs.Cores.{answer_at}
use Rattle.live_core.specs.Bases.{Base}

-- a core: what it was opened with, its history, and how many more events that can take
pub record CoreView : Type 0 where
  pub base : Base
  pub history : History Step Answer
  pub spare : ℕ

-- the answer to a step over a base, after a history
abbrev pub reply : Base → History Step Answer → Step → Answer
reply base history step = answer_at base.terms history step

-- whether a step with its answer joins the history
abbrev pub keeps : Step → Answer → Bool
keeps step answer = is_kept answer
