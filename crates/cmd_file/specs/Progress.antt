-- What the reader of a file keeps of a line and between two lines, as the definition of a command file sees it.
use Rattle.std.specs.Prelude.{map, Option}
use Rattle.std.specs.Option.{option_map}
use Rattle.pool_model.specs.declared.commands.Payload.{Payload}
use Rattle.pool_model.specs.declared.commands.Payload.TheVariants as payloads
use Rattle.pool_model.specs.declared.commands.Verb.{Verb}
use Rattle.pool_model.specs.declared.commands.Verb.TheVariants as verbs
use Rattle.pool_model.specs.Mirrors.{part_of, task_of}
use Rattle.pool_model.specs.File as file
use Rattle.pool_model.specs.File.{Spelt, each, repeated, Deed, writes, reads, frees, Line, begins, stands, does, ends}
use Rattle.cmd_file.specs.declared.lines.Start.{Start}
use Rattle.cmd_file.specs.declared.lines.Start.TheVariants as starts
use Rattle.cmd_file.specs.declared.lines.Step.{Step}
use Rattle.cmd_file.specs.declared.lines.Step.TheVariants as steps
use Rattle.cmd_file.specs.declared.progress.Done.{Done}
use Rattle.cmd_file.specs.declared.progress.OpenGroup.{OpenGroup}
use Rattle.cmd_file.specs.declared.progress.Progress.{Progress}

abbrev pub spelt_of : Payload → Spelt
spelt_of (payloads.Bytes block) = each block.items
spelt_of (payloads.Repeat byte times) = repeated byte times

abbrev pub deed_of : Verb → Deed
deed_of (verbs.Write payload) = writes (spelt_of payload)
deed_of verbs.Read = reads
deed_of verbs.Free = frees

-- a good line where no group is open
abbrev pub start_of : Start → Line
start_of (starts.Group moment) = begins moment
start_of (starts.Item item) = stands (part_of item)

-- a good line of a group
abbrev pub step_of : Step → Line
step_of (steps.Command command) = does command.lane command.slot (deed_of command.verb)
step_of steps.End = ends

-- a group that is open, seen plainly
abbrev pub open_group : OpenGroup → file.OpenGroup
open_group group = record { moment = group.moment; tasks = map task_of group.commands.items }

-- what was read, with this group open
abbrev pub with_open : Done → Option file.OpenGroup → file.Progress
with_open done group = record { lines = done.lines; parts = map part_of done.items.items; group = group; reads = done.reads }

-- what was read so far, seen plainly
abbrev pub progress_of : Progress → file.Progress
progress_of progress = with_open progress.done (option_map open_group progress.group)
