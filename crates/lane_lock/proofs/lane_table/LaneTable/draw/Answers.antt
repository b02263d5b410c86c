use Rattle.std.proofs.Common.{rules}
use Rattle.lane_lock.proofs.Steps.{draws}
use Rattle.lane_lock.proofs.lane_table.LaneTable.draw.Goals as goal

pub fetch_add-requires : goal.fetch_add-requires
fetch_add-requires g c = (search rules, search rules, draws _ _ _ _ _ c.requires.idle c.requires.lanes)
