-- The rule of the lock: what its words, its slot and the views of its seats say of one history.
-- Word 0 is the ticket that is drawn next and word 1 the one that is served, both counted modulo 2^64. Slot 0 has the machine.
use Rattle.std.specs.Prelude.{◌≡◌, ℕ, zero, suc, ◌+◌, ◌%◌, ◌^◌, ◌<◌, ◌≤◌, Bool, true, false, ◌||◌, ◌==◌, List, [], ◌∷◌, length, sum, sum_by, slice_index, MatchBool, Option, Some}
use mathlib.Core.Option.{some, none}
use lib.ListN.{get_elem?}
use Rattle.atomic_table.specs.Table.{State}
use Rattle.machine_model.specs.Histories.{History, Meaning, of_lane, AreBelow, IsLegal, BeginsWith}
use Rattle.lane_lock.specs.declared.view.Stage.{Stage}
use Rattle.lane_lock.specs.declared.view.Stage.TheVariants.{Idle, Waits, Turn}
use Rattle.lane_lock.specs.declared.view.View.{View}

-- what a lock is opened with: the machine, and how many events each lane may keep
pub record Opening (M : Type 0) : Type 0 where
  pub machine : M
  pub shares : List ℕ

abbrev pub opening_of : {M : Type 0} → M → List ℕ → Opening M
opening_of machine shares = record { machine = machine; shares = shares }

-- what stands behind the words at one moment
pub record Moment (S A : Type 0) : Type 0 where
  -- the history
  pub log : History S A
  -- the seats that have a ticket, in the order of their tickets
  pub line : List ℕ
  -- how many turns were passed on, counted without end
  pub served : ℕ
  -- whether a seat has the machine in hand
  pub busy : Bool
  -- the seat that keeps a lane
  pub keeper : ℕ → ℕ

-- whether a lane is among some
abbrev pub has : ℕ → List ℕ → Bool
has l [] = false
has l (x ∷ xs) = (x == l) || has l xs

abbrev pub tickets : Stage → ℕ
tickets Idle = 0
tickets (Waits n) = 1
tickets Turn = 1

module _ {S A : Type 0} (now : Moment S A) (seat : ℕ) (lanes : List ℕ) (seen : History S A) where
  -- where a seat stands: a ticket is its place in the line, the turn is the head of the line, and who has the turn has seen all
  abbrev pub Stands : Stage → Type 0
  Stands Idle = Unit {0}
  Stands (Waits n) = (0 < length lanes)
      × ((p : ℕ) × (get_elem? now.line p ≡ some seat) × (n ≡ (now.served + p) % 2 ^ 64) × (now.busy ≡ true → 0 < p))
  Stands Turn = (0 < length lanes) × (now.busy ≡ true) × (get_elem? now.line 0 ≡ some seat) × (seen ≡ now.log)

-- a seat's view is true of the moment. A spent view keeps no lane, so nothing is said of it
pub record Knows {M B S A : Type 0} (t : Meaning M B S A) (o : Opening M) (now : Moment S A) (seat : ℕ) (v : View M S A) : Type 0 where
  -- all views have one opening
  pub told : 0 < length v.lanes → (v.origin ≡ Some o.machine) × (v.shares ≡ o.shares)
  -- each lane is kept by one seat at most
  pub kept : (l : ℕ) → has l v.lanes ≡ true → (now.keeper l ≡ seat) × (l < length o.shares)
  -- the history begins with what the seat has seen
  pub seen : BeginsWith now.log v.seen
  -- and with what each seat that it took in had seen
  pub met : (k : ℕ) (x : History S A) → get_elem? v.met k ≡ some x → BeginsWith now.log x
  -- the events of its lanes are its own
  pub own : (l : ℕ) → has l v.lanes ≡ true → of_lane t.lane l v.own ≡ of_lane t.lane l now.log
  -- and it has none of other lanes
  pub others : (l : ℕ) → has l v.lanes ≡ false → of_lane t.lane l v.own ≡ []
  -- its ticket and its turn are as the line has them
  pub stage : Stands now seat v.lanes v.seen v.stage

-- the history is legal, all its events are of the lock's lanes, and each lane has its share at the most
pub record IsLawful {M B S A : Type 0} (t : Meaning M B S A) (o : Opening M) (log : History S A) : Type 0 where
  pub legal : IsLegal t.fits t.reply (t.base o.machine) [] log
  pub below : AreBelow t.lane (length o.shares) log
  pub shared : (l : ℕ) → l < length o.shares → length (of_lane t.lane l log) ≤ slice_index o.shares l

-- the machine as it stands: the base of the opening, this history, and room for all shares
pub record IsAt {M B S A : Type 0} (t : Meaning M B S A) (o : Opening M) (log : History S A) (machine : M) : Type 0 where
  pub base : t.base machine ≡ t.base o.machine
  pub history : t.history machine ≡ log
  pub room : sum o.shares ≤ t.spare machine + length log

-- the words are the tickets that come next and are served, and so count the line
pub record AreTickets (words : List ℕ) (served waiting : ℕ) : Type 0 where
  pub wide : length words ≡ 2
  pub next : slice_index words 0 ≡ (served + waiting) % 2 ^ 64
  pub serves : slice_index words 1 ≡ served % 2 ^ 64

-- the slot is empty while a seat has the turn, and has the machine else
abbrev pub IsHome : {M B S A : Type 0} → Meaning M B S A → Opening M → Moment S A → List (mathlib.Core.Option.Option (Option M)) → Type 0
IsHome {M} t o now homes = MatchBool now.busy (homes ≡ none ∷ []) ((machine : M) × (homes ≡ some (Some machine) ∷ [])
    × IsAt t o now.log machine)

-- the rule
pub record Ruled {M B S A : Type 0} (t : Meaning M B S A) (o : Opening M) (s : State (Option M) (View M S A)) : Type 0 where
  pub now : Moment S A
  -- the words count the line
  pub words : AreTickets s.words now.served (length now.line)
  -- a lock has sixteen lanes at the most, so that no two tickets that are out are one number
  pub few : length o.shares ≤ 16
  -- the lanes of all views are no more than there are
  pub lanes : sum_by (λ (v : View M S A). length v.lanes) s.views ≤ length o.shares
  -- the line has as many places as there are tickets out
  pub waiting : sum_by (λ (v : View M S A). tickets v.stage) s.views ≡ length now.line
  -- who has the machine in hand stands in the line
  pub occupied : now.busy ≡ true → 0 < length now.line
  -- the machine is in the slot, or in that hand
  pub home : IsHome t o now s.homes
  -- there is one legal history
  pub lawful : IsLawful t o now.log
  -- and each view is true of it
  pub each : (j : ℕ) (v : View M S A) → get_elem? s.views j ≡ some v → Knows t o now j v

-- lanes from one on, so many
abbrev pub lanes_from : ℕ → ℕ → List ℕ
lanes_from l zero = []
lanes_from l (suc n) = l ∷ lanes_from (l + 1) n

-- the first seat keeps all lanes and has seen nothing
abbrev pub newcomer : {M S A : Type 0} → Opening M → View M S A
newcomer o = record {
  lanes = lanes_from 0 (length o.shares);
  shares = o.shares;
  stage = Idle;
  seen = [];
  met = [];
  own = [];
  origin = Some o.machine;
}
