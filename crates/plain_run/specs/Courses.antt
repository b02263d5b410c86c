-- A plain program's course as the definitions see it.
use Rattle.pool_model.specs.declared.commands.Command.{Command}
use Rattle.pool_model.specs.declared.answers.CommandAnswer.{CommandAnswer}
use Rattle.std.specs.Prelude.{◌^◌, ◌<◌, ⊤, length}
use Rattle.pool_model.specs.Plain.{Act, write, read, free, reply_of}
use Rattle.pool_model.specs.Mirrors.{task_of}
use Rattle.pool_model.specs.Command.{Course, Turn}
use Rattle.plain_run.specs.declared.course.PlainCourse.TheInside.{Inside}

abbrev pub course_of : Inside → Course
course_of c =
    record { pool = c.pool; earlier = c.earlier.items; fresh = c.fresh.items; given = c.given.items; replies = c.answers.items; touched = c.touched.items }

-- a command's turn, with the answer that was noted of it
abbrev pub turn_of : Command → CommandAnswer → Turn
turn_of command noted = record { task = task_of command; reply = reply_of noted }

-- a content that is written has 1 to 2^32 - 1 bytes
abbrev pub WritesContent : Act → Type 0
WritesContent (write content) = (0 < length content) × (length content < 2 ^ 32)
WritesContent read = ⊤
WritesContent free = ⊤
