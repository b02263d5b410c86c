-- The turns that are left of a lane, and of a group's lanes.
use Rattle.std.proofs.Common.{ℕ, List, map}
use Rattle.std.specs.List.{zip}
use Rattle.pool_model.specs.declared.commands.Command.{Command}
use Rattle.pool_model.specs.declared.answers.CommandAnswer.{CommandAnswer}
use Rattle.pool_model.specs.Plain.{Task, Reply, reply_of}
use Rattle.pool_model.specs.Mirrors.{task_of}
use Rattle.pool_model.specs.Command.{Turn}
use Rattle.pool_model.specs.Group.{tasks_of}

abbrev pub joined : Task × Reply → Turn
joined pair = record { task = pair.0; reply = pair.1 }

-- the turns that a lane has left
abbrev pub turns_left : ℕ → List Command → List CommandAnswer → List Turn
turns_left lane commands answers = map joined (zip (tasks_of lane (map task_of commands)) (map reply_of answers))
