use Rattle.std.proofs.Common.{rules}
use Rattle.lane_lock.proofs.Steps.{looks}
use Rattle.lane_lock.proofs.lane_table.LaneTable.look.Goals as goal

pub load-requires : goal.load-requires
load-requires g c = (search rules, search rules, looks _ _ _ _ c.args.ticket _ c.requires.waits.0 c.requires.waits.1)
