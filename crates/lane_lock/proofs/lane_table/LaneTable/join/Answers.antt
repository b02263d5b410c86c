use Rattle.std.proofs.Common.{rules}
use Rattle.lane_lock.proofs.Ends.{joins}
use Rattle.lane_lock.proofs.lane_table.LaneTable.join.Goals as goal

pub join_seat-requires : goal.join_seat-requires
join_seat-requires g c = let idle = c.requires.idle in
    (search rules, search rules, search rules, search rules, joins _ _ _ _ _ _ c.requires.lanes idle.0 idle.1)
