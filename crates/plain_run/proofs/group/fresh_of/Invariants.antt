use Rattle.std.proofs.Common.{◌≡◌, [], replicate, take, map, fold, slice_set}
use Rattle.pool_model.specs.Pool.{lane_count}
use Rattle.pool_model.specs.Plain.{lane_told}
use Rattle.plain_run.proofs.group.fresh_of.Given as goal

abbrev pub invariant-loop-note : goal.invariant-loop-note
invariant-loop-note l =
    l.fresh.items ≡ fold (λ fresh lane. slice_set fresh lane.lane lane.fresh) (replicate lane_count [])
    (map lane_told (take l.note-index l.notes))
