-- What is left of a disk where a session ended before its items, or created no pool, whatever was pending.
use Rattle.std.specs.Prelude.{◌≡◌, ◌⊎◌, ℕ, ⊤, length, Some}
use Rattle.disk_model.specs.Images.{Image}
use Rattle.disk_model.specs.Crashes.{DiskState}
use Rattle.table_state.specs.Flat.{HasNoPool}
use Rattle.txg_sync.specs.FirstSeal.{NoneOrNew}
use Rattle.txg_sync.specs.FirstSeal.{SameOutside}
use Rattle.session.specs.declared.status.Status.{Status}
use Rattle.session.specs.declared.status.Status.TheVariants.{Done, SinkFault, WriteFault}
use Rattle.session.specs.declared.words.Word.{Word}
use Rattle.session.specs.declared.words.Word.TheVariants.{Run, Make}

-- the image as it was, or no pool before and none or the new one now; and nothing but the slot of the new pool's seal has changed
pub record MayBeMade (tag : ℕ) (image c : Image) : Type 0 where
  pub shows : (c ≡ image) ⊎ (HasNoPool image × NoneOrNew tag (length image) c)
  pub outside : SameOutside 1 image c

-- the image is told as it was, and a crash leaves nothing that it might not have left before
pub record IsAsBefore (image : Image) (before after : DiskState) : Type 0 where
  pub told : after.seen ≡ Some image
  pub no_more : (c : Image) → after.may_leave c → before.may_leave c

-- where no pool was created: all is as before, or, where a write failed, an image is told in which the new pool may be made
abbrev pub StaysUncreated : Status → (tag : ℕ) → Image → (before after : DiskState) → Type 0
StaysUncreated Done tag image before after = ⊤
StaysUncreated SinkFault tag image before after = ⊤
StaysUncreated WriteFault tag image before after = (c : Image) × (after.seen ≡ Some c) × MayBeMade tag image c
StaysUncreated _ tag image before after = IsAsBefore image before after

-- where no item was begun: all is as before, or what making a new pool left
abbrev pub StaysSo : Status → Word → (tag : ℕ) → Image → (before after : DiskState) → Type 0
StaysSo status Run tag image before after = IsAsBefore image before after
StaysSo status Make tag image before after = StaysUncreated status tag image before after
