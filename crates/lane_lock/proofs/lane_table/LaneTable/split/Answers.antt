use Rattle.std.proofs.Common.{rules}
use Rattle.lane_lock.proofs.Ends.{splits}
use Rattle.lane_lock.proofs.lane_table.LaneTable.split.Goals as goal

pub split_seat-requires : goal.split_seat-requires
split_seat-requires g c = let can = c.requires.can in
    (search rules, search rules, splits _ _ _ _ can.lane can.rest can.lanes can.once can.none_own can.idle)
