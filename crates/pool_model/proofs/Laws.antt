-- Laws of the definitions that loops stand on: one turn, or one item, more.
use Rattle.std.specs.Prelude.{◌≡◌, ℕ, List, [], ◌∷◌, ◌++◌}
use Rattle.std.proofs.lemmas.List.Sums.{fold-append}
use Rattle.std.proofs.lemmas.Grind.{flat_map-append}
use Rattle.pool_model.specs.Pool.{Pool}
use Rattle.pool_model.specs.Command.{Opening, Turn, after}
use Rattle.pool_model.specs.Group.{course_of, opened}
use Rattle.pool_model.specs.Run.{RunStep}
use Rattle.pool_model.specs.Text.{step_text, report}

-- a group with one turn more is that turn after the group
pub course_of-append : (opening : Opening) (pool : Pool) (fresh : List (List ℕ)) (turns : List Turn) (turn : Turn) →
    course_of opening pool fresh (turns ++ turn ∷ []) ≡ after opening (course_of opening pool fresh turns) turn
course_of-append opening pool fresh turns turn = fold-append (after opening) (opened pool fresh) turns (turn ∷ [])

-- the report of steps is that of some and then that of the others
pub report-append : (first rest : List RunStep) → report (first ++ rest) ≡ report first ++ report rest
report-append first rest = flat_map-append step_text first rest
