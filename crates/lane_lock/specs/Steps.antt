-- What each step of the lock tells the seat that takes it.
use Rattle.std.specs.Prelude.{◌≡◌, ℕ, ◌+◌, ◌<◌, ◌≤◌, true, false, ◌==◌, List, [], ◌∷◌, ◌++◌, length, drop, take, sum, slice_index, MatchBool, Option, Some, None}
use Rattle.atomic_table.specs.Table.{Me}
use Rattle.atomic_table.specs.declared.shared.Seat.{Seat}
use Rattle.machine_model.specs.Histories.{History, Meaning, of_lane, kept_of, AreBelow, IsLegal, BeginsWith}
use Rattle.lane_lock.specs.declared.view.Stage.{Stage}
use Rattle.lane_lock.specs.declared.view.Stage.TheVariants.{Idle, Waits, Turn}
use Rattle.lane_lock.specs.declared.view.View.{View}
use Rattle.lane_lock.specs.Rules.{has}

-- what a seat knows and holds
abbrev pub Sitter : Type 0 → Type 0 → Type 0 → Type 0
Sitter M S A = Me (Option M) (View M S A)

abbrev pub ticket_of : Stage → ℕ
ticket_of (Waits n) = n
ticket_of _ = 0

-- the machine is in the seat's hand
abbrev pub holding : {M : Type 0} → M → List (ℕ × Option M)
holding now = (0, Some now) ∷ []

module _ {M S A : Type 0} where
  -- draw: the number found is its ticket
  abbrev pub drew : Sitter M S A → ℕ → Sitter M S A → Type 0
  drew m r m' = m' ≡ (record m.0 { stage = Waits r }, m.1)

  -- split: the first lane is given away, with all that was seen
  abbrev pub keeping : View M S A → View M S A
  keeping v = record v { lanes = drop 1 v.lanes }

  abbrev pub given : View M S A → View M S A
  given v = record v { lanes = take 1 v.lanes; stage = Idle; met = []; own = [] }

  -- join: the other's lanes and events beside its own, and all that both have seen
  abbrev pub joined : View M S A → View M S A → View M S A
  joined v w = record v { lanes = v.lanes ++ w.lanes; met = v.met ++ w.seen ∷ w.met; own = v.own ++ w.own }

  abbrev pub spent : View M S A
  spent = record { lanes = []; shares = []; stage = Idle; seen = []; met = []; own = []; origin = None }

-- a machine in the hand of a seat whose turn has just come
pub record IsInHand {M B S A : Type 0} (t : Meaning M B S A) (v : View M S A) (machine now : M) : Type 0 where
  pub base : t.base now ≡ t.base machine
  -- its history begins with what the seat had seen
  pub later : BeginsWith (t.history now) v.seen
  pub legal : IsLegal t.fits t.reply (t.base machine) [] (t.history now)
  -- and has the seat's own events of its lanes
  pub own : (l : ℕ) → has l v.lanes ≡ true → of_lane t.lane l v.own ≡ of_lane t.lane l (t.history now)
  pub wide : sum v.shares ≤ t.spare now + length (t.history now)
  -- it has room while a lane of the seat has not kept its share
  pub room : (l : ℕ) → has l v.lanes ≡ true → length (of_lane t.lane l v.own) < slice_index v.shares l → 0 < t.spare now

module _ {M B S A : Type 0} (t : Meaning M B S A) where
  -- look at the ticket served: the turn with the machine, and all its history seen
  abbrev pub HasTurn : View M S A → Sitter M S A → Type 0
  HasTurn v m' = (machine now : M) × (v.origin ≡ Some machine) × IsInHand t v machine now
      × (m' ≡ (record v { stage = Turn; seen = t.history now }, holding now))

  abbrev pub looked : Sitter M S A → ℕ → Sitter M S A → Type 0
  looked m r m' = MatchBool (r == ticket_of m.0.stage) (HasTurn m.0 m') (m' ≡ m)

  -- pass: what the machine's history has beyond what was seen is the seat's own
  abbrev pub passed : Sitter M S A → Sitter M S A → Type 0
  passed m m' = (now : M) → m.1 ≡ holding now
      → m' ≡ (record m.0 { stage = Idle; seen = t.history now; own = m.0.own ++ drop (length m.0.seen) (t.history now) }, [])

-- a step was applied to a machine
pub record Applied {M B S A : Type 0} (t : Meaning M B S A) (now : M) (step : S) (answer : A) (after : M) : Type 0 where
  pub gives : answer ≡ t.reply (t.base now) (t.history now) step
  pub base : t.base after ≡ t.base now
  pub history : t.history after ≡ t.history now ++ kept_of t.keeps step answer
  pub spare : t.spare now + length (t.history now) ≤ t.spare after + length (t.history after)

-- the machine in the seat's hand took a step
abbrev pub HasApplied : {M B S A : Type 0} → Meaning M B S A → S → A → Sitter M S A → Sitter M S A → Type 0
HasApplied {M} t step answer m m' = (now after : M) × (m.1 ≡ holding now) × (m' ≡ (m.0, holding after)) × Applied t now step answer after

-- events that a seat may add behind what it has seen
pub record AreNews {M B S A : Type 0} (t : Meaning M B S A) (v : View M S A) (machine : M) (news : History S A) : Type 0 where
  pub legal : IsLegal t.fits t.reply (t.base machine) v.seen news
  -- they are of its lanes alone
  pub mine : (l : ℕ) → has l v.lanes ≡ false → of_lane t.lane l news ≡ []
  pub below : AreBelow t.lane (length v.shares) news
  -- and within their shares
  pub within : (l : ℕ) → has l v.lanes ≡ true → length (of_lane t.lane l v.own) + length (of_lane t.lane l news) ≤ slice_index v.shares l

-- the seat has a machine in hand with which it may pass the turn on
pub record CanPass {M B S A : Type 0} (t : Meaning M B S A) (m : Sitter M S A) : Type 0 where
  pub machine : M
  pub now : M
  pub news : History S A
  pub turn : m.0.stage ≡ Turn
  pub told : m.0.origin ≡ Some machine
  pub hand : m.1 ≡ holding now
  pub base : t.base now ≡ t.base machine
  pub history : t.history now ≡ m.0.seen ++ news
  pub wide : sum m.0.shares ≤ t.spare now + length (t.history now)
  pub fit : AreNews t m.0 machine news

-- a step leaves the seat what it is
abbrev pub IsSame : {M S A : Type 0} → Seat (Option M) (View M S A) → Seat (Option M) (View M S A) → Type 0
IsSame p q = (q.table_id ≡ p.table_id) × (q.id ≡ p.id)

-- what the opening told stays
abbrev pub IsTold : {M S A : Type 0} → View M S A → View M S A → Type 0
IsTold v w = (w.origin ≡ v.origin) × (w.shares ≡ v.shares)
