-- How the seats of a lock are made from one, and taken in again.
use Rattle.std.specs.Prelude.{◌≡◌, ℕ, suc, ◌+◌, ◌<◌, ◌≤◌, true, false, List, [], ◌∷◌, length, slice_get, Some}
use lib.ListN.{get_elem?}
use mathlib.Core.Option.{some}
use Rattle.atomic_table.specs.Seated.{TableId}
use Rattle.machine_model.specs.Histories.{History, Meaning, of_lane, AreBelow, IsLegal, BeginsWith}
use Rattle.lane_lock.specs.declared.view.Stage.TheVariants.{Idle}
use Rattle.lane_lock.specs.declared.view.View.{View}
use Rattle.lane_lock.specs.Rules.{Opening, has, lanes_from, newcomer}
use Rattle.lane_lock.specs.Steps.{Sitter}
use Rattle.lane_lock.specs.Seats.{LockView, SeatView, IsAtRest}

-- the first lane may be given away
pub record CanSplit {M S A : Type 0} (v : View M S A) : Type 0 where
  pub lane : ℕ
  pub rest : List ℕ
  pub lanes : v.lanes ≡ lane ∷ rest
  pub once : has lane rest ≡ false
  pub none_own : v.own ≡ []
  pub idle : v.stage ≡ Idle

abbrev pub opening_in : {M : Type 0} → LockView M → Opening M
opening_in lock = record { machine = lock.first; shares = lock.shares }

-- the seats of the lanes below this one are cut off, and a seat keeps the others
pub record IsLeft {M S A : Type 0} (lock : LockView M) (lane : ℕ) (m : Sitter M S A) : Type 0 where
  pub more : ℕ
  pub count : lane + suc more ≡ length lock.shares
  pub left : m ≡ (record (newcomer (opening_in lock)) { lanes = lanes_from lane (suc more) }, [])

-- the machine at the end, to a seat that keeps all lanes
pub record Ended {M B S A : Type 0} (t : Meaning M B S A) (o : Opening M) (v : View M S A) (machine : M) : Type 0 where
  pub base : t.base machine ≡ t.base o.machine
  pub legal : IsLegal t.fits t.reply (t.base o.machine) [] (t.history machine)
  pub below : AreBelow t.lane (length o.shares) (t.history machine)
  -- its history begins with what the seat has seen, and with what each that it took in had seen
  pub seen : BeginsWith (t.history machine) v.seen
  pub met : (k : ℕ) (x : History S A) → get_elem? v.met k ≡ some x → BeginsWith (t.history machine) x
  -- and has of each lane just the events that the seat has of it
  pub own : (l : ℕ) → has l v.lanes ≡ true → of_lane t.lane l v.own ≡ of_lane t.lane l (t.history machine)

-- what stands behind a seat that callers see
pub record IsPlaceOf {M B S A : Type 0} (t : Meaning M B S A) (seat : SeatView M S A) (id : TableId) (m : Sitter M S A) : Type 0 where
  pub same : id ≡ seat.lock
  pub seen : m.0.seen ≡ seat.seen
  pub own : m.0.own ≡ seat.own
  pub rest : IsAtRest t seat.lane m

-- the seats stand in the order of their lanes
abbrev pub InOrder : {M S A : Type 0} → TableId → List (SeatView M S A) → Type 0
InOrder {M} {S} {A} id seats = (k : ℕ) (s : SeatView M S A) → slice_get seats k ≡ Some s → (s.lock ≡ id) × (s.lane ≡ k)

-- a seat has taken in those from the lane k on
pub record Gathered {M B S A : Type 0} (t : Meaning M B S A) (all : List (SeatView M S A)) (k : ℕ) (m : Sitter M S A) : Type 0 where
  pub idle : m.0.stage ≡ Idle
  pub hand : m.1 ≡ []
  pub some_lane : 0 < length m.0.lanes
  pub lanes : (i : ℕ) → k ≤ i → i < length all → has i m.0.lanes ≡ true
  -- what begins with all that it has met begins with what each had seen
  pub seen : (i : ℕ) (s : SeatView M S A) → k ≤ i → slice_get all i ≡ Some s → (log : History S A) → BeginsWith log m.0.seen
      → ((j : ℕ) (x : History S A) → get_elem? m.0.met j ≡ some x → BeginsWith log x) → BeginsWith log s.seen
  pub own : (i : ℕ) (s : SeatView M S A) → k ≤ i → slice_get all i ≡ Some s → of_lane t.lane i m.0.own ≡ s.own
  pub below : (l : ℕ) → l < k → of_lane t.lane l m.0.own ≡ []

-- what the machine of a closed lock tells of a seat
pub record Closes {M B S A : Type 0} (t : Meaning M B S A) (machine : M) (k : ℕ) (seat : SeatView M S A) : Type 0 where
  -- the history begins with what the seat had seen
  pub seen : BeginsWith (t.history machine) seat.seen
  -- and has of its lane exactly its own events, in order
  pub own : of_lane t.lane k (t.history machine) ≡ seat.own
