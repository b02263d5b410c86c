-- The commands, answers and notes of a session as plain values: what they say, without the room that their lists have to spare.
use Rattle.std.specs.Prelude.{ℕ, List, map, Option}
use Rattle.pool_model.specs.declared.commands.Mode.{Mode}
use Rattle.pool_model.specs.declared.commands.PruneRule.{PruneRule}
use Rattle.pool_model.specs.declared.answers.WriteAnswer.{WriteAnswer}
use Rattle.pool_model.specs.declared.answers.FreeAnswer.{FreeAnswer}
use Rattle.pool_model.specs.declared.answers.ReadAnswer.{ReadAnswer}
use Rattle.pool_model.specs.declared.answers.ReadAnswer.TheVariants as reads
use Rattle.pool_model.specs.declared.answers.CommandAnswer.{CommandAnswer}
use Rattle.pool_model.specs.declared.answers.CommandAnswer.TheVariants as answers
use Rattle.pool_model.specs.declared.notes.Kind.{Kind}
use Rattle.pool_model.specs.declared.notes.Outcome.{Outcome}
use Rattle.pool_model.specs.declared.notes.LaneNote.{LaneNote}
use Rattle.pool_model.specs.declared.notes.GroupNote.{GroupNote}

-- what a command does to its slot
pub data Act : Type 0 where
  write : (content : List ℕ) → Act
  read : Act
  free : Act

-- a command
pub record Task : Type 0 where
  pub lane : ℕ
  pub slot : ℕ
  pub act : Act

-- an item that is a group: commands of lanes, a prune, or a setting
pub data GroupItem : Type 0 where
  lanes : (moment : ℕ) (tasks : List Task) → GroupItem
  prune : (moment : ℕ) (rule : PruneRule) → GroupItem
  quota : (limit : Option ℕ) → GroupItem
  set_mode : (lane : ℕ) (mode : Mode) → GroupItem

-- an item of a command file
pub data Part : Type 0 where
  create : Part
  of_group : (item : GroupItem) → Part
  stat : Part
  «import» : Part

-- what a read answers
pub data Sight : Type 0 where
  bytes : (content : List ℕ) → Sight
  nothing : Sight
  unread : Sight
  unsound : (place : ℕ) → Sight

-- what a command answers
pub data Reply : Type 0 where
  to_write : (answer : WriteAnswer) → Reply
  to_free : (answer : FreeAnswer) → Reply
  to_read : (answer : Sight) → Reply

-- what a lane did in a group
pub record LaneTold : Type 0 where
  pub lane : ℕ
  pub replies : List Reply
  pub fresh : List ℕ
  pub faults : ℕ

-- what a group did
pub record Told : Type 0 where
  pub number : ℕ
  pub kind : Kind
  pub outcome : Outcome
  pub taken : ℕ
  pub lanes : List LaneTold

abbrev pub sight_of : ReadAnswer → Sight
sight_of (reads.Bytes block) = bytes block.items
sight_of reads.Empty = nothing
sight_of reads.Fault = unread
sight_of (reads.Damaged place) = unsound place

abbrev pub reply_of : CommandAnswer → Reply
reply_of (answers.Write answer) = to_write answer
reply_of (answers.Free answer) = to_free answer
reply_of (answers.Read answer) = to_read (sight_of answer)

abbrev pub lane_told : LaneNote → LaneTold
lane_told note = record { lane = note.lane; replies = map reply_of note.answers.items; fresh = note.fresh.items; faults = note.faults }

abbrev pub told_of : GroupNote → Told
told_of note = record {
  number = note.number;
  kind = note.kind;
  outcome = note.outcome;
  taken = note.taken;
  lanes = map lane_told note.lanes.items;
}
