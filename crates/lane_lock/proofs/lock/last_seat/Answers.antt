use Rattle.std.proofs.Common.{◌∙◌}
use Rattle.lane_lock.proofs.Seating.{seat_last, last_rests}
use Rattle.lane_lock.proofs.lock.last_seat.Goals as goal

pub of_place-requires-clause-rest : goal.of_place-requires-clause-rest
of_place-requires-clause-rest g c κs within = last_rests _ _ _ _ c.requires.left c.requires.last

pub returns : goal.returns
returns g c = record { seat = c.of_place.ensures.seat ∙ seat_last _ _ _ _ c.requires.left c.requires.last c.requires.ours }
