use Rattle.std.proofs.Common.{rules, subst, sym}
use Rattle.lane_lock.specs.Seats.{lock_view, AreFirst}
use Rattle.lane_lock.proofs.Seating.{first-push}
use Rattle.lane_lock.proofs.lock.seat_lanes.Goals as goal

pub cut-preserved : goal.cut-preserved
cut-preserved g c = (
  search rules,
  search rules,
  c.cut_off.ensures.left,
  search rules,
  subst (AreFirst (lock_view c.args.lanes.now.table.shared)) (sym c.in_ok-push.ensures.items)
      (first-push (lock_view c.args.lanes.now.table.shared) c.cut.seats.items c.cut_off.result c.cut.lane c.cut.invariant.4
      c.cut.invariant.3 c.cut_off.ensures.seat),
)

pub returns-clause-seats : goal.returns-clause-seats
returns-clause-seats g c = subst (AreFirst (lock_view c.args.lanes.now.table.shared)) (sym c.in_ok-push-2.ensures.items)
    (first-push (lock_view c.args.lanes.now.table.shared) c.cut.seats.items c.last_seat.result c.cut.lane c.cut.invariant.4
    c.cut.invariant.3 c.last_seat.ensures.seat)
