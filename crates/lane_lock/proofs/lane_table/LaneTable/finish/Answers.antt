use Rattle.lane_lock.proofs.Ends.{ends_with, ended_in}
use Rattle.lane_lock.proofs.lane_table.LaneTable.finish.Goals as goal

pub unreachable-requires : goal.unreachable-requires
unreachable-requires g c = let end =
    ends_with _ _ _ _ _ _ c.requires.idle c.requires.all c.close_with-closed.ensures.values.2 c.take.result c.take.ensures.value in
    let nothing = c.in_default.is in let something = end.1 in cc

pub returns : goal.returns
returns g c = record {
  ended = ended_in _ _ _ _ _ _ c.requires.idle c.requires.all c.close_with-closed.ensures.values.2 c.take.result c.take.ensures.value
      c.in-Some.machine c.in-Some.is;
}
