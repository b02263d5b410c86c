use Rattle.std.proofs.Common.{rules}
use Rattle.lane_lock.proofs.Ends.{opens_as}
use Rattle.lane_lock.proofs.lane_table.LaneTable.open.Goals as goal

pub new-requires : goal.new-requires
new-requires g c = let fresh = c.requires.fresh in
    opens_as _ c.args.machine _ c.args.shares.now _ _ (search rules) (search rules) (search rules) fresh.0 fresh.1 c.requires.few
