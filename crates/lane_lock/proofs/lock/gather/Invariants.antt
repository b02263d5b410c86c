use Rattle.std.proofs.Common.{◌≡◌, length}
use Rattle.machine_model.specs.Histories.{meaning, BeginsWith}
use Rattle.lane_lock.specs.Gathering.{Gathered}
use Rattle.lane_lock.proofs.lock.gather.Given as goal

abbrev pub invariant-take_in : goal.invariant-take_in
invariant-take_in g l = (l.place.table_id ≡ l.lanes.table.shared.table_id) × BeginsWith l.fn.seats.items l.seats.items
    × Gathered (meaning g.M.Machine.base g.M.Machine.history g.M.Machine.spare g.M.Machine.lane_of g.M.Machine.fits g.M.Machine.reply
    g.M.Machine.keeps) l.fn.seats.items (length l.seats.items) l.place.me

abbrev pub decreases-take_in : goal.decreases-take_in
decreases-take_in g l = length l.seats.items
