use Rattle.std.proofs.Common.{◌∙◌}
use Rattle.lane_lock.proofs.Seating.{can_cut, left_behind, seat_cut, given_rests}
use Rattle.lane_lock.proofs.lock.cut_off.Goals as goal

pub split-requires-clause-can : goal.split-requires-clause-can
split-requires-clause-can g c κs within = can_cut _ _ _ c.requires.left c.requires.more

pub of_place-requires-clause-rest : goal.of_place-requires-clause-rest
of_place-requires-clause-rest g c κs within = given_rests _ _ _ _ _ c.requires.left c.split.ensures.given.1

pub returns-clause-left : goal.returns-clause-left
returns-clause-left g c = left_behind _ _ _ _ c.requires.left c.requires.more c.split.ensures.kept

pub returns-clause-seat : goal.returns-clause-seat
returns-clause-seat g c = c.of_place.ensures.seat ∙ seat_cut _ _ _ _ _ c.requires.left c.split.ensures.given.1
    (c.split.ensures.given.0 ∙ c.requires.ours)
