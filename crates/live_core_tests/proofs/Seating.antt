-- The two seats of a new lock round a core may keep three events each.
use Rattle.std.proofs.Common.{◌≡◌, ℕ, List, [], ◌∷◌, ◌++◌, length, slice_get, slice_index, Some, sym, ap, ◌∙◌, subst, length-append, arith}
use Rattle.machine_model.specs.declared.machine.Event.{Event}
use Rattle.lane_lock.specs.Seats.{LockView, SeatView, AreFirst}
use Rattle.lane_lock.proofs.Seating.{get_longer, first_is_of}
use Rattle.lane_lock.proofs.Gathers.{get_between}
use Rattle.live_core.specs.declared.steps.Step.{Step}
use Rattle.live_core.specs.declared.steps.Answer.{Answer}
use Rattle.live_core.specs.Views.{CoreView}
use Rattle.live_core_tests.specs.Groups.{IsOfGroup}
use Rattle.live_core_tests.specs.Seated.{IsReady}

abbrev Lock : Type 0
Lock = LockView CoreView

abbrev View : Type 0
View = SeatView CoreView Step Answer

ready_at : (lock : Lock) (seats : List View) (seat : View) (k : ℕ) → AreFirst lock seats → slice_get seats k ≡ Some seat
    → slice_index lock.shares k ≡ 3 → IsOfGroup lock.first.base → IsReady lock seat k 3
ready_at lock seats seat k first there share group =
    let is = first_is_of lock seats first k seat there in
    let shares : slice_index seat.shares k ≡ slice_index lock.shares k = ap (λ (xs : List ℕ). slice_index xs k) is.0.shared in
    let none : length seat.own ≡ 0 = ap (λ (es : List (Event Step Answer)). length es) is.2 in
    record { same = is.0; lane_is = is.1; room = omega arith; of_group = group }

module _ (lock : Lock) (all front rest : List View) (first second : View) (are : AreFirst lock all) (two : length all ≡ 2)
    (last : all ≡ front ++ second ∷ []) (last_but_one : front ≡ rest ++ first ∷ []) (shares : lock.shares ≡ 3 ∷ 3 ∷ [])
    (group : IsOfGroup lock.first.base) where
  front_one : length front ≡ 1
  front_one = let long = ap (λ (xs : List View). length xs) last ∙ length-append front (second ∷ []) in omega arith

  rest_none : length rest ≡ 0
  rest_none = let long = ap (λ (xs : List View). length xs) last_but_one ∙ length-append rest (first ∷ []) in
      let one = front_one in omega arith

  pub second_ready : IsReady lock second 1 3
  second_ready = ready_at lock all second 1 are
      (subst (λ (xs : List View). slice_get xs 1 ≡ Some second) (sym last)
      (subst (λ (k : ℕ). slice_get (front ++ second ∷ []) k ≡ Some second) front_one (get_between front [] second)))
      (ap (λ (xs : List ℕ). slice_index xs 1) shares) group

  pub first_ready : IsReady lock first 0 3
  first_ready = ready_at lock all first 0 are
      (subst (λ (xs : List View). slice_get xs 0 ≡ Some first) (sym last)
      (get_longer front (second ∷ []) 0 first
      (subst (λ (xs : List View). slice_get xs 0 ≡ Some first) (sym last_but_one)
      (subst (λ (k : ℕ). slice_get (rest ++ first ∷ []) k ≡ Some first) rest_none (get_between rest [] first)))))
      (ap (λ (xs : List ℕ). slice_index xs 0) shares) group
