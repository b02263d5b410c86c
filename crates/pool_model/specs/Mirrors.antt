-- How commands, items and blocks of `src/` are seen as plain values, and which writes have the form of a content.
use Rattle.std.specs.Prelude.{ℕ, List, map, replicate}
use Rattle.pool_model.specs.declared.commands.Payload.{Payload}
use Rattle.pool_model.specs.declared.commands.Payload.TheVariants as payloads
use Rattle.pool_model.specs.declared.commands.Verb.{Verb}
use Rattle.pool_model.specs.declared.commands.Verb.TheVariants as verbs
use Rattle.pool_model.specs.declared.commands.Command.{Command}
use Rattle.pool_model.specs.declared.commands.Item.{Item}
use Rattle.pool_model.specs.declared.commands.Item.TheVariants as items
use Rattle.pool_model.specs.declared.closed.StoredBlock.{StoredBlock}
use Rattle.pool_model.specs.Pool.{IsContent}
use Rattle.pool_model.specs.Plain.{Act, write, read, free, Task, lanes, prune, quota, set_mode, Part, create, of_group, stat, «import»}

-- a write of a content
abbrev pub WritesBlock : Act → Type 0
WritesBlock (write content) = IsContent content
WritesBlock read = ⊥
WritesBlock free = ⊥

abbrev pub content_of : Payload → List ℕ
content_of (payloads.Bytes block) = block.items
content_of (payloads.Repeat byte times) = replicate times byte

abbrev pub act_of : Verb → Act
act_of (verbs.Write payload) = write (content_of payload)
act_of verbs.Read = read
act_of verbs.Free = free

abbrev pub task_of : Command → Task
task_of command = record { lane = command.lane; slot = command.slot; act = act_of command.verb }

abbrev pub part_of : Item → Part
part_of items.Create = create
part_of (items.Lanes group) = of_group (lanes group.moment (map task_of group.commands.items))
part_of (items.Prune moment rule) = of_group (prune moment rule)
part_of (items.Quota limit) = of_group (quota limit)
part_of (items.SetMode lane mode) = of_group (set_mode lane mode)
part_of items.Stat = stat
part_of items.Import = «import»

-- a block with the place that it was given
pub record Stored : Type 0 where
  pub place : ℕ
  pub bytes : List ℕ

abbrev pub stored_of : StoredBlock → Stored
stored_of stored = record { place = stored.place; bytes = stored.block.items }
