-- The worked runs, each computed by the checker.
use Rattle.std.proofs.Common.{rules}
use Rattle.pool_model.proofs.OnLiterals.{pool_on_literals}
use Rattle.pool_model.specs.WorkedRuns.{OneWrite, SharedWrite, TakenSlot, FullQuota, RoomAgain, PrunedByAge, LoosePointer, PrunedByShare, VerifiedBytes, EmptySlot, MixedLanes}

pub one_write : OneWrite
unfolding pool_on_literals
one_write = search rules

pub shared_write : SharedWrite
unfolding pool_on_literals
shared_write = search rules

pub taken_slot : TakenSlot
unfolding pool_on_literals
taken_slot = search rules

pub full_quota : FullQuota
unfolding pool_on_literals
full_quota = search rules

pub room_again : RoomAgain
unfolding pool_on_literals
room_again = search rules

pub pruned_by_age : PrunedByAge
unfolding pool_on_literals
pruned_by_age = search rules

pub loose_pointer : LoosePointer
unfolding pool_on_literals
loose_pointer = search rules

pub pruned_by_share : PrunedByShare
unfolding pool_on_literals
pruned_by_share = search rules

pub verified_bytes : VerifiedBytes
unfolding pool_on_literals
verified_bytes = search rules

pub empty_slot : EmptySlot
unfolding pool_on_literals
empty_slot = search rules

pub mixed_lanes : MixedLanes
unfolding pool_on_literals
mixed_lanes = search rules
