-- One step more: what it comes to is what its event does to the history, also where the history doesn't note it.
use Rattle.std.proofs.Common.{◌≡◌, ℕ, ◌==◌, Bool, true, false, nat_lt, if◌then◌else◌, [], ◌∷◌, ◌++◌, refl, sym, ap, ◌∙◌, append-nil, arith}
use Rattle.std.proofs.lemmas.Bool.Decides.{nat_tests}
use Rattle.std.proofs.lemmas.List.Sums.{fold-append}
use Rattle.machine_model.specs.declared.machine.Event.{Event}
use Rattle.machine_model.specs.Histories.{History, kept_of}
use Rattle.live_core.specs.declared.steps.KeyState.{KeyState}
use Rattle.live_core.specs.declared.steps.Step.{Step}
use Rattle.live_core.specs.declared.steps.Answer.{Answer}
use Rattle.live_core.specs.declared.steps.Terms.{Terms}
use Rattle.live_core.specs.declared.moves.Move.{Move}
use Rattle.live_core.specs.Moves.{stray, move_of, key_in, is_kept}
use Rattle.live_core.specs.Cores.{CoreState, put, first_core, moved, core_after, core_at, answer_at}
use Rattle.live_core.specs.Views.{keeps}
use Rattle.live_core.proofs.Goes.{Goes, stays, leads, loads, fails, news, hits, falls, goes}

-- a step over a core goes as the table does, or changes nothing at a key that the group doesn't have
pub moved_goes : (terms : Terms) (core : CoreState) (step : Step)
    → Goes step (core.states (key_in step)) core.homes (moved terms core step)
moved_goes terms core step = by_range (nat_lt (key_in step) terms.keys)
  where
    by_range : (inside : Bool) → Goes step (core.states (key_in step)) core.homes
        (if inside then move_of terms step (core.states (key_in step)) core.homes else stray (core.states (key_in step)) core.homes)
    by_range true = goes terms step (core.states (key_in step)) core.homes
    by_range false = stays refl refl refl

-- a step that isn't kept changes nothing
pub unkept_stays : (step : Step) (state : KeyState) (homes : ℕ) (m : Move) → Goes step state homes m → is_kept m.answer ≡ false
    → (m.state ≡ state) × (m.homes ≡ homes)
unkept_stays step state homes m (stays s h a) out = (s, h)
unkept_stays step state homes m (leads lane key e before s h a) out = absurd (cc (sym (ap is_kept a) ∙ out))
unkept_stays step state homes m (loads lane key home e before s h a) out = absurd (cc (sym (ap is_kept a) ∙ out))
unkept_stays step state homes m (fails lane key e before s h a) out = absurd (cc (sym (ap is_kept a) ∙ out))
unkept_stays step state homes m (news known next before none s one h a) out = absurd (cc (sym (ap is_kept a) ∙ out))
unkept_stays step state homes m (hits live next before some s one h a) out = absurd (cc (sym (ap is_kept a) ∙ out))
unkept_stays step state homes m (falls live next before some s one h a) out = absurd (cc (sym (ap is_kept a) ∙ out))

-- the same state put in its own place
pub put_same : (at : ℕ) (state : KeyState) (states : ℕ → KeyState) → state ≡ states at → (key : ℕ) → put at state states key ≡ states key
put_same at state states same key = by_test (key == at) refl
  where
    by_test : (here : Bool) → (key == at) ≡ here → (if here then state else states key) ≡ states key
    by_test true test = let one : at ≡ key = grind (arith, nat_tests) in same ∙ ap states one
    by_test false test = refl

core_same : (core later : CoreState) → ((key : ℕ) → later.states key ≡ core.states key) → later.homes ≡ core.homes → later ≡ core
core_same core later states homes = λ i. record { states = λ key. states key i; homes = homes i }

-- so it leaves the whole core
pub unkept_same : (terms : Terms) (core : CoreState) (step : Step) → is_kept (moved terms core step).answer ≡ false
    → core_after terms core step ≡ core
unkept_same terms core step out =
    let same = unkept_stays step (core.states (key_in step)) core.homes (moved terms core step) (moved_goes terms core step) out in
    core_same core (core_after terms core step)
    (put_same (key_in step) (moved terms core step).state core.states same.0) same.1

-- one event more is one step more
pub core_longer : (terms : Terms) (history : History Step Answer) (event : Event Step Answer)
    → core_at terms (history ++ event ∷ []) ≡ core_after terms (core_at terms history) event.step
core_longer terms history event =
    fold-append (λ core (e : Event Step Answer). core_after terms core e.step) (first_core terms) history (event ∷ [])

-- what a step adds to the history leads to what the step comes to
pub core_kept : (terms : Terms) (history : History Step Answer) (step : Step)
    → core_at terms (history ++ kept_of keeps step (answer_at terms history step)) ≡ core_after terms (core_at terms history) step
core_kept terms history step = by_test (is_kept (answer_at terms history step)) refl
  where
    by_test : (kept : Bool) → is_kept (answer_at terms history step) ≡ kept
        → core_at terms (history ++ (if kept then record { step = step; answer = answer_at terms history step } ∷ [] else []))
        ≡ core_after terms (core_at terms history) step
    by_test true test = core_longer terms history (record { step = step; answer = answer_at terms history step })
    by_test false test = ap (λ (h : History Step Answer). core_at terms h) (append-nil history)
        ∙ sym (unkept_same terms (core_at terms history) step test)
