-- A seat of a lock round a core of the tests' group.
use Rattle.std.specs.Prelude.{◌≡◌, ℕ, ◌+◌, ◌≤◌, length, slice_index}
use Rattle.live_core.specs.declared.steps.Step.{Step}
use Rattle.live_core.specs.declared.steps.Answer.{Answer}
use Rattle.live_core.specs.Views.{CoreView}
use Rattle.lane_lock.specs.Seats.{LockView, SeatView, IsSeatOf}
use Rattle.live_core_tests.specs.Groups.{IsOfGroup}

-- the seat of this lane, which may keep so many events more
pub record IsReady (lock : LockView CoreView) (seat : SeatView CoreView Step Answer) (lane left : ℕ) : Type 0 where
  pub same : IsSeatOf lock seat
  pub lane_is : seat.lane ≡ lane
  pub room : length seat.own + left ≤ slice_index seat.shares lane
  pub of_group : IsOfGroup lock.first.base
