use Rattle.pool_model.proofs.Left.{later_hit, taken_up, new_moment, no_change, quota_first, off_lane, other_lane_off, reads_nothing, waits_again, bytes_kept, oldest_first, plain_stays, quota_by_keys, cut_block, ordered, free_places, other_notes}
use Rattle.pool_model.proofs.Turns.{cut_group}
use Rattle.pool_model.proofs.worked.worked_groups.Goals as goal

pub returns : goal.returns
returns c = record {
  later_hit = later_hit;
  taken_up = taken_up;
  new_moment = new_moment;
  no_change = no_change;
  quota_first = quota_first;
  off_lane = off_lane;
  other_lane_off = other_lane_off;
  reads_nothing = reads_nothing;
  waits_again = waits_again;
  bytes_kept = bytes_kept;
  oldest_first = oldest_first;
  plain_stays = plain_stays;
  quota_by_keys = quota_by_keys;
  cut_block = cut_block;
  ordered = ordered;
  free_places = free_places;
  other_notes = other_notes;
  cut_group = cut_group;
}
