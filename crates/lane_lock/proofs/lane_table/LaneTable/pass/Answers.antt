use Rattle.std.proofs.Common.{rules}
use Rattle.lane_lock.proofs.Steps.{leaves}
use Rattle.lane_lock.proofs.lane_table.LaneTable.pass.Goals as goal

pub fetch_add-requires : goal.fetch_add-requires
fetch_add-requires g c = (search rules, search rules, leaves _ _ _ _ _ c.requires.can)
