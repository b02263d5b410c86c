use Rattle.std.proofs.Common.{◌≡◌, ℕ, ◌≤◌, List, [], ◌∷◌, ◌++◌, length, slice_get, slice_index, Some, sym, ap, ◌∙◌, subst}
use Rattle.lane_lock.specs.Seats.{SeatView, IsSeatOf}
use Rattle.lane_lock.proofs.Seating.{each_push, get_longer}
use Rattle.lane_lock.proofs.Gathers.{get_between}
use Rattle.live_core.specs.declared.steps.Step.{Step}
use Rattle.live_core.specs.declared.steps.Answer.{Answer}
use Rattle.live_core.specs.Views.{CoreView}
use Rattle.live_core_tests.proofs.at_once.+run_lanes.Goals as goal

abbrev View : Type 0
View = SeatView CoreView Step Answer

abbrev Seats : Type 0
Seats = List View

pub run_lanes-requires-clause-ours : goal.run_lanes-requires-clause-ours
run_lanes-requires-clause-ours g t c κs within k s there = c.requires.ours k s
    (subst (λ (xs : Seats). slice_get xs k ≡ Some s) (sym c.in-Some.ensures.items)
    (get_longer c.pop.new.self.items (c.in-Some.seat ∷ []) k s there))

-- a bound by the shares that were handed in is one by those that the seat knows
within_share : (given lock seat : List ℕ) (own lane room : ℕ) → room ≤ slice_index given own → given ≡ lock → seat ≡ lock → own ≡ lane
    → room ≤ slice_index seat lane
within_share given lock seat own lane room fits same known is =
    subst (λ (n : ℕ). room ≤ n) (ap (λ (xs : List ℕ). slice_index xs own) (same ∙ sym known) ∙ ap (λ (k : ℕ). slice_index seat k) is) fits

pub spawn_with-requires-clause-runs : goal.spawn_with-requires-clause-runs
spawn_with-requires-clause-runs g t c κs within =
    let front : Seats = c.pop.new.self.items in
    let mine = c.requires.ours (length front) c.in-Some.seat
    (subst (λ (xs : Seats). slice_get xs (length front) ≡ Some c.in-Some.seat) (sym c.in-Some.ensures.items)
    (get_between front [] c.in-Some.seat)) in (
      mine.0,
      (
        (
          mine.2,
          within_share c.args.shares.now c.args.lock.now.shares c.in-Some.seat.shares c.lane-own.result c.in-Some.seat.lane
              c.room_of-room.result c.room_of-room.ensures c.requires.shares mine.0.shared c.lane-own.ensures,
        ),
        c.requires.group,
      ),
    )

pub returns-clause-ours : goal.returns-clause-ours
returns-clause-ours g t c =
    let front : Seats = c.pop.new.self.items in
    let mine = c.requires.ours (length front) c.in-Some.seat
    (subst (λ (xs : Seats). slice_get xs (length front) ≡ Some c.in-Some.seat) (sym c.in-Some.ensures.items)
    (get_between front [] c.in-Some.seat)) in
    let kept = subst (λ p. IsSeatOf p.lock.now c.join.result × (c.join.result.lane ≡ p.lane)) c.in_ok-child.ensures.ok c.join.ensures in
    let place : c.join.result.lane ≡ length c.in_ok-back.back.items = kept.1 ∙ c.lane-own.ensures ∙ mine.1 ∙ sym c.in_ok-back.ensures.all in
    subst (λ (xs : Seats). (k : ℕ) (s : View) → slice_get xs k ≡ Some s → IsSeatOf c.args.lock.now s × (s.lane ≡ k))
    (sym c.in_ok-push.ensures.items)
    (each_push (λ k s. IsSeatOf c.args.lock.now s × (s.lane ≡ k)) c.in_ok-back.back.items c.join.result c.in_ok-back.ensures.ours
    (kept.0, place))
