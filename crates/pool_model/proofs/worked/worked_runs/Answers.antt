use Rattle.pool_model.proofs.Runs.{one_write, shared_write, taken_slot, full_quota, room_again, pruned_by_age, loose_pointer, pruned_by_share, verified_bytes, empty_slot, mixed_lanes}
use Rattle.pool_model.proofs.Turns.{waiting_home, two_lanes, failed_reads, spoilt_block, no_room}
use Rattle.pool_model.proofs.worked.worked_runs.Goals as goal

pub returns : goal.returns
returns c = record {
  one_write = one_write;
  shared_write = shared_write;
  taken_slot = taken_slot;
  full_quota = full_quota;
  room_again = room_again;
  pruned_by_age = pruned_by_age;
  loose_pointer = loose_pointer;
  pruned_by_share = pruned_by_share;
  verified_bytes = verified_bytes;
  empty_slot = empty_slot;
  mixed_lanes = mixed_lanes;
  waiting_home = waiting_home;
  two_lanes = two_lanes;
  failed_reads = failed_reads;
  spoilt_block = spoilt_block;
  no_room = no_room;
}
