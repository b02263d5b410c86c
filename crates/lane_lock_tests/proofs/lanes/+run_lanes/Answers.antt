use Rattle.std.proofs.Common.{◌≡◌, ℕ, List, [], ◌∷◌, ◌++◌, length, slice_get, Some, sym, ◌∙◌, subst}
use Rattle.lane_lock.specs.Seats.{SeatView, IsSeatOf}
use Rattle.lane_lock.proofs.Seating.{each_push, get_longer}
use Rattle.lane_lock.proofs.Gathers.{get_between}
use Rattle.lane_lock_tests.specs.declared.tally.Tally.{Tally}
use Rattle.lane_lock_tests.proofs.lanes.+run_lanes.Goals as goal

abbrev Seats : Type 0
Seats = List (SeatView Tally ℕ ℕ)

pub run_lanes-requires-clause-ours : goal.run_lanes-requires-clause-ours
run_lanes-requires-clause-ours g t c κs within k s there = c.requires.ours k s
    (subst (λ (xs : Seats). slice_get xs k ≡ Some s) (sym c.in-Some.ensures.items)
    (get_longer c.pop.new.self.items (c.in-Some.seat ∷ []) k s there))

pub returns-clause-ours : goal.returns-clause-ours
returns-clause-ours g t c =
    let front : Seats = c.pop.new.self.items in
    let mine = c.requires.ours (length front) c.in-Some.seat
    (subst (λ (xs : Seats). slice_get xs (length front) ≡ Some c.in-Some.seat) (sym c.in-Some.ensures.items)
    (get_between front [] c.in-Some.seat)) in
    let kept = subst (λ p. IsSeatOf p.lock.now c.join.result × (c.join.result.lane ≡ p.lane)) c.in_ok-child.ensures.ok c.join.ensures in
    let place : c.join.result.lane ≡ length c.in_ok-back.back.items = kept.1 ∙ c.lane-own.ensures ∙ mine.1 ∙ sym c.in_ok-back.ensures.all in
    subst (λ (xs : Seats). (k : ℕ) (s : SeatView Tally ℕ ℕ) → slice_get xs k ≡ Some s → IsSeatOf c.args.lock.now s × (s.lane ≡ k))
    (sym c.in_ok-push.ensures.items)
    (each_push (λ k s. IsSeatOf c.args.lock.now s × (s.lane ≡ k)) c.in_ok-back.back.items c.join.result c.in_ok-back.ensures.ours
    (kept.0, place))
