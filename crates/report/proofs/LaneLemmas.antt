-- A lane's commands that are left, with the answers that are left.
use Rattle.std.proofs.Common.{◌≡◌, ◌≢◌, ◌+◌, ◌<◌, ℕ, List, ◌∷◌, length, drop, slice_index_or, map, ap, ◌∙◌, sym, eq-eqb, Bool, cond}
use Rattle.std.proofs.lemmas.Bool.{ne_eqb}
use Rattle.std.proofs.lemmas.List.{drop_more}
use Rattle.std.specs.List.{flat_map, zip}
use Rattle.pool_model.specs.declared.commands.Command.{Command}
use Rattle.pool_model.specs.declared.answers.CommandAnswer.{CommandAnswer}
use Rattle.pool_model.specs.Group.{tasks_of}
use Rattle.pool_model.specs.declared.notes.LaneNote.{LaneNote}
use Rattle.pool_model.specs.Plain.{Task, Reply, reply_of, lane_told}
use Rattle.pool_model.specs.Mirrors.{task_of}
use Rattle.pool_model.specs.Text.{command_line, lane_text}
use Rattle.report.proofs.Written.{Splits}

-- the lane's commands among these, each with its answer
abbrev pub answered_text : (lane : ℕ) → List Command → List CommandAnswer → List ℕ
answered_text lane commands answers = flat_map command_line (zip (tasks_of lane (map task_of commands)) (map reply_of answers))

-- what is printed where the next command is the lane's, or isn't
abbrev next_text : Bool → Command → (tasks : List Task) → (replies : List Reply) → List ℕ
next_text own command tasks replies = flat_map command_line (zip (cond own (task_of command ∷ tasks) tasks) replies)

-- a command of the lane, with its answer
pub answered_text-own : (lane : ℕ) (commands : List Command) (i : ℕ) (command : Command) (answers others : List CommandAnswer)
    (answer : CommandAnswer)
    → i < length commands → command ≡ slice_index_or commands i command → command.lane ≡ lane → answers ≡ answer ∷ others
    → Splits (answered_text lane (drop i commands) answers) (command_line (task_of command, reply_of answer))
    (answered_text lane (drop (i + 1) commands) others)
answered_text-own lane commands i command answers others answer within here own taken =
    let tasks = tasks_of lane (map task_of (drop (i + 1) commands)) in
    record {
      parts =
          ap (λ l. answered_text lane l answers)
          (drop_more commands i command within ∙ ap (λ (x : Command). x ∷ drop (i + 1) commands) (sym here))
          ∙ ap (λ l. answered_text lane (command ∷ drop (i + 1) commands) l) taken
          ∙ ap (λ b. next_text b command tasks (reply_of answer ∷ map reply_of others)) (eq-eqb command.lane lane own);
    }

-- a command of another lane
pub answered_text-other : (lane : ℕ) (commands : List Command) (i : ℕ) (command : Command) (answers : List CommandAnswer)
    → i < length commands → command ≡ slice_index_or commands i command → command.lane ≢ lane
    → answered_text lane (drop i commands) answers ≡ answered_text lane (drop (i + 1) commands) answers
answered_text-other lane commands i command answers within here other =
    ap (λ l. answered_text lane l answers)
    (drop_more commands i command within ∙ ap (λ (x : Command). x ∷ drop (i + 1) commands) (sym here))
    ∙ ap (λ b. next_text b command (tasks_of lane (map task_of (drop (i + 1) commands))) (map reply_of answers))
    (ne_eqb command.lane lane other)

-- what is printed of the lanes that are left
pub lanes-splits : (tasks : List Task) (notes : List LaneNote) (i : ℕ) (note : LaneNote) → i < length notes
    → note ≡ slice_index_or notes i note
    → Splits (flat_map (lane_text tasks) (map lane_told (drop i notes))) (lane_text tasks (lane_told note))
    (flat_map (lane_text tasks) (map lane_told (drop (i + 1) notes)))
lanes-splits tasks notes i note within here = record {
  parts =
      ap (λ l. flat_map (lane_text tasks) (map lane_told l))
      (drop_more notes i note within ∙ ap (λ (x : LaneNote). x ∷ drop (i + 1) notes) (sym here));
}
