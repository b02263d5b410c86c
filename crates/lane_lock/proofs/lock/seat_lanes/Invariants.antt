use Rattle.std.proofs.Common.{◌≡◌, ◌-◌, ◌<◌, length}
use Rattle.lane_lock.specs.Seats.{lock_view, AreFirst}
use Rattle.lane_lock.specs.Gathering.{IsLeft}
use Rattle.lane_lock.proofs.lock.seat_lanes.Given as goal

abbrev pub decreases-cut : goal.decreases-cut
decreases-cut g l = l.count - l.lane

abbrev pub invariant-cut : goal.invariant-cut
invariant-cut g l = (l.place.table_id ≡ l.lanes.table.shared.table_id) × (l.lane < l.count)
    × IsLeft (lock_view l.lanes.table.shared) l.lane l.place.me
    × (length l.seats.items ≡ l.lane) × AreFirst (lock_view l.lanes.table.shared) l.seats.items
