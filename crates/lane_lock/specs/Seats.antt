-- A lock and its seats as callers see them, and what an act tells.
use Rattle.std.specs.Prelude.{◌≡◌, ℕ, List, [], ◌∷◌, ◌++◌, slice_get, Option, Some}
use Rattle.atomic_table.specs.Seated.{TableId}
use Rattle.machine_model.specs.Histories.{History, Meaning, of_lane, kept_of, IsLegal, BeginsWith}
use Rattle.atomic_table.specs.declared.shared.Shared.{Shared}
use Rattle.lane_lock.specs.declared.view.Start.{Start}
use Rattle.lane_lock.specs.declared.view.Stage.TheVariants.{Idle}
use Rattle.lane_lock.specs.Steps.{Sitter}

-- a lock: which it is, the machine that it was opened with, and the shares of its lanes
pub record LockView (M : Type 0) : Type 0 where
  pub lock : TableId
  pub first : M
  pub shares : List ℕ

abbrev pub lock_view : {M P V : Type 0} → Shared (Option M) V (Start M) P → LockView M
lock_view shared = record { lock = shared.table_id; first = shared.key.machine.value; shares = shared.key.shares.value.items }

-- a seat: which lock it is of, its lane, what it has seen of the history, and its own events in it
pub record SeatView (M S A : Type 0) : Type 0 where
  pub lock : TableId
  pub first : Option M
  pub lane : ℕ
  pub shares : List ℕ
  pub seen : History S A
  pub own : History S A

abbrev pub seat_view : {M S A : Type 0} → TableId → ℕ → Sitter M S A → SeatView M S A
seat_view lock lane m = record { lock = lock; first = m.0.origin; lane = lane; shares = m.0.shares; seen = m.0.seen; own = m.0.own }

-- the seat is one of this lock
pub record IsSeatOf {M S A : Type 0} (lock : LockView M) (seat : SeatView M S A) : Type 0 where
  pub same : seat.lock ≡ lock.lock
  pub opened : seat.first ≡ Some lock.first
  pub shared : seat.shares ≡ lock.shares

-- a seat between two acts keeps its lane alone, has neither a ticket nor the turn, and all its own events are of its lane
pub record IsAtRest {M B S A : Type 0} (t : Meaning M B S A) (lane : ℕ) (m : Sitter M S A) : Type 0 where
  pub lanes : m.0.lanes ≡ lane ∷ []
  pub stage : m.0.stage ≡ Idle
  pub hand : m.1 ≡ []
  pub met : m.0.met ≡ []
  pub own : of_lane t.lane lane m.0.own ≡ m.0.own

-- what an act tells, b being the base: the answer is the machine's after some legal history
pub record Answers {M B S A : Type 0} (t : Meaning M B S A) (b : B) (v w : SeatView M S A) (step : S) (answer : A) : Type 0 where
  pub before : History S A
  -- which begins with all that the seat had seen
  pub later : BeginsWith before v.seen
  pub legal : IsLegal t.fits t.reply b [] before
  -- and has of the seat's lane just the seat's own events
  pub mine : of_lane t.lane v.lane before ≡ v.own
  pub replied : answer ≡ t.reply b before step
  -- the seat has now seen it, and the step with its answer if it is kept
  pub seen : w.seen ≡ before ++ kept_of t.keeps step answer
  -- which is then one more of its own
  pub own : w.own ≡ v.own ++ kept_of t.keeps step answer

-- a seat as `new` makes it: it has seen nothing and has no event
abbrev pub first_seat : {M S A : Type 0} → LockView M → ℕ → SeatView M S A
first_seat lock lane = record { lock = lock.lock; first = Some lock.first; lane = lane; shares = lock.shares; seen = []; own = [] }

-- seats as `new` makes them, in the order of their lanes
abbrev pub AreFirst : {M S A : Type 0} → LockView M → List (SeatView M S A) → Type 0
AreFirst {M} {S} {A} lock seats = (k : ℕ) (s : SeatView M S A) → slice_get seats k ≡ Some s → s ≡ first_seat lock k
