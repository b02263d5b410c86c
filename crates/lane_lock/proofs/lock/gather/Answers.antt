use Rattle.std.proofs.Common.{◌∙◌}
use Rattle.lane_lock.proofs.Gathers.{gathering_begins, is_of_lock, gathering_goes_on}
use Rattle.lane_lock.proofs.lock.gather.Goals as goal

pub take_in-init : goal.take_in-init
take_in-init g c = gathering_begins _ _ _ _ c.pop.new.self.items c.in-Some.last _ c.requires.ours c.in-Some.ensures.items
    c.into_place-place.ensures.place

pub join-requires-clause-ours : goal.join-requires-clause-ours
join-requires-clause-ours g c κs within = (
  c.take_in.invariant.0,
  is_of_lock _ _ _ _ _ _ _ _ c.requires.ours c.take_in.invariant.1 c.in-Some-pop.ensures.items
      c.into_place.ensures.place,
)

pub take_in-preserved : goal.take_in-preserved
take_in-preserved g c = let so_far =
    gathering_goes_on _ _ _ _ _ c.take_in.seats.items c.pop-in-take_in.new.self.items c.in-Some-pop.seat _ _ _
    c.requires.ours c.take_in.invariant c.in-Some-pop.ensures.items c.into_place.ensures.place c.join.ensures.joined in
    (c.join.ensures.same.0 ∙ c.take_in.invariant.0, so_far.1, so_far.2)
