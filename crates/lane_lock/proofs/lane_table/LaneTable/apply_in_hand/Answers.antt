use Rattle.std.proofs.Common.{◌∷◌, Some, sym, ap, ◌∙◌}
use Rattle.atomic_table.specs.Table.{rest}
use Rattle.lane_lock.proofs.lane_table.LaneTable.apply_in_hand.Goals as goal

pub exchange-requires : goal.exchange-requires
exchange-requires g c = let can = c.requires.can in
    (c.requires.ours, (Some can.0, can.1 ∙ sym (ap (λ cs. (0, Some can.0) ∷ rest cs) can.1)))
