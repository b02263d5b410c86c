-- The count of a key against what the events say.
use Rattle.std.proofs.Common.{◌≡◌, ℕ, ◌+◌, ◌==◌, ◌&&◌, Bool, true, false, if◌then◌else◌, List, [], ◌∷◌, length, filter, refl, sym, ap, ◌∙◌, subst, arith}
use Rattle.std.proofs.lemmas.Bool.Decides.{nat_tests}
use Rattle.std.proofs.lemmas.List.Sums.{sum_by-cons}
use Rattle.machine_model.specs.declared.machine.Event.{Event}
use Rattle.machine_model.specs.Histories.{History}
use Rattle.live_core.specs.declared.steps.KeyState.{KeyState}
use Rattle.live_core.specs.declared.steps.Step.{Step}
use Rattle.live_core.specs.declared.steps.Answer.{Answer}
use Rattle.live_core.specs.declared.steps.Answer.TheVariants as answers
use Rattle.live_core.specs.declared.steps.Terms.{Terms}
use Rattle.live_core.specs.declared.moves.Move.{Move}
use Rattle.live_core.specs.Moves.{key_in, count_in}
use Rattle.live_core.specs.Cores.{CoreState, put, moved, core_after, first_core, core_at}
use Rattle.live_core.specs.Events.{is_gain, is_loss, is_done, handed_in, loaded, gains, losses, AreAnswered}
use Rattle.live_core.proofs.Goes.{Goes, is_still, stays, leads, loads, fails, news, hits, falls}
use Rattle.live_core.proofs.Keeping.{moved_goes}
use Rattle.live_core.proofs.Leading.{put_here, goes_on}

abbrev pub bit : Bool → ℕ
bit b = if b then 1 else 0

still_counts : (a : Answer) → is_still a ≡ true → (is_gain a ≡ false) × (is_loss a ≡ false) × (is_done a ≡ false)
still_counts answers.Lead e = absurd (cc e)
still_counts answers.Done e = absurd (cc e)
still_counts (answers.New home) e = absurd (cc e)
still_counts (answers.Hit home) e = absurd (cc e)
still_counts answers.Counted e = absurd (cc e)
still_counts (answers.Held lane) e = (refl, refl, refl)
still_counts (answers.Known known) e = (refl, refl, refl)
still_counts (answers.Again known) e = (refl, refl, refl)
still_counts answers.Quota e = (refl, refl, refl)
still_counts answers.Clash e = (refl, refl, refl)
still_counts answers.Loose e = (refl, refl, refl)
still_counts answers.Stray e = (refl, refl, refl)

-- what an answer does to a count
record Weighs (step : Step) (a : Answer) (gain loss load : ℕ) : Type 0 where
  gains_it : bit (is_gain a) ≡ gain
  loses_it : bit (is_loss a) ≡ loss
  loads_it : (if is_done a then handed_in step else 0) ≡ load

weighs : (step : Step) (a b : Answer) → a ≡ b
    → Weighs step a (bit (is_gain b)) (bit (is_loss b)) (if is_done b then handed_in step else 0)
weighs step a b e = record {
  gains_it = ap (λ (x : Answer). bit (is_gain x)) e;
  loses_it = ap (λ (x : Answer). bit (is_loss x)) e;
  loads_it = ap (λ (x : Answer). if is_done x then handed_in step else 0) e;
}

balance : (step : Step) (state : KeyState) (homes : ℕ) (m : Move) → Goes step state homes m
    → count_in m.state + bit (is_loss m.answer) ≡ count_in state + (if is_done m.answer then handed_in step else 0) + bit (is_gain m.answer)
balance step state homes m (stays s h a) =
    let quiet = still_counts m.answer a in let same = ap count_in s in
    let g : bit (is_gain m.answer) ≡ 0 = ap bit quiet.0 in
    let l : bit (is_loss m.answer) ≡ 0 = ap bit quiet.1 in
    let d : (if is_done m.answer then handed_in step else 0) ≡ 0 = ap (λ (b : Bool). if b then handed_in step else 0) quiet.2 in
    omega arith
balance step state homes m (leads by k e before s h a) =
    let same = ap count_in s in let had = ap count_in before in let w = weighs step m.answer answers.Lead a in
    let g = w.gains_it in let l = w.loses_it in let d = w.loads_it in omega arith
balance step state homes m (loads by k home e before s h a) =
    let same = ap count_in s in let had = ap count_in before in let w = weighs step m.answer answers.Done a in
    let g = w.gains_it in let l = w.loses_it in let d = w.loads_it ∙ ap handed_in e in omega arith
balance step state homes m (fails by k e before s h a) =
    let same = ap count_in s in let had = ap count_in before in let w = weighs step m.answer answers.Done a in
    let g = w.gains_it in let l = w.loses_it in let d = w.loads_it ∙ ap handed_in e in omega arith
balance step state homes m (news known next before none s one h a) =
    let same = ap count_in s in let had = ap count_in before in let w = weighs step m.answer (answers.New next.home) a in
    let g = w.gains_it in let l = w.loses_it in let d = w.loads_it in omega arith
balance step state homes m (hits live next before some s one h a) =
    let same = ap count_in s in let had = ap count_in before in let w = weighs step m.answer (answers.Hit next.home) a in
    let g = w.gains_it in let l = w.loses_it in let d = w.loads_it in omega arith
balance step state homes m (falls live next before some s one h a) =
    let same = ap count_in s in let had = ap count_in before in let w = weighs step m.answer answers.Counted a in
    let g = w.gains_it in let l = w.loses_it in let d = w.loads_it in omega arith

-- one event against the state of any key
one_event : (terms : Terms) (core : CoreState) (e : Event Step Answer) (key : ℕ) → e.answer ≡ (moved terms core e.step).answer
    → count_in ((core_after terms core e.step).states key) + bit (key_in e.step == key && is_loss e.answer)
    ≡ count_in (core.states key) + (if key_in e.step == key && is_done e.answer then handed_in e.step else 0)
    + bit (key_in e.step == key && is_gain e.answer)
one_event terms core e key answered = by_test (key_in e.step == key) refl
  where
    m : Move
    m = moved terms core e.step

    here : key_in e.step ≡ key → count_in (put (key_in e.step) m.state core.states key) + bit (is_loss e.answer)
        ≡ count_in (core.states key) + (if is_done e.answer then handed_in e.step else 0) + bit (is_gain e.answer)
    here one = subst (λ (a : Answer). count_in (put (key_in e.step) m.state core.states key) + bit (is_loss a)
        ≡ count_in (core.states key) + (if is_done a then handed_in e.step else 0) + bit (is_gain a)) (sym answered)
        (subst (λ (k : ℕ). count_in (put (key_in e.step) m.state core.states k) + bit (is_loss m.answer)
        ≡ count_in (core.states k) + (if is_done m.answer then handed_in e.step else 0) + bit (is_gain m.answer)) one
        (subst (λ (s : KeyState). count_in s + bit (is_loss m.answer)
        ≡ count_in (core.states (key_in e.step)) + (if is_done m.answer then handed_in e.step else 0) + bit (is_gain m.answer))
        (sym (put_here (key_in e.step) m.state core.states))
        (balance e.step (core.states (key_in e.step)) core.homes m (moved_goes terms core e.step))))

    apart : (b : Bool) → (key_in e.step == key) ≡ b → b ≡ false → (key == key_in e.step) ≡ false
    apart b f g = grind (arith, nat_tests)

    by_test : (b : Bool) → (key_in e.step == key) ≡ b → count_in (put (key_in e.step) m.state core.states key) + bit (b && is_loss e.answer)
        ≡ count_in (core.states key) + (if b && is_done e.answer then handed_in e.step else 0) + bit (b && is_gain e.answer)
    by_test true test = let one : key_in e.step ≡ key = grind (arith, nat_tests) in here one
    by_test false test = let same : count_in (put (key_in e.step) m.state core.states key) ≡ count_in (core.states key) =
        ap (λ (b : Bool). count_in (if b then m.state else core.states key)) (apart false test refl) in omega arith

filter_more : (p : Event Step Answer → Bool) (e : Event Step Answer) (es : List (Event Step Answer))
    → length (filter p (e ∷ es)) ≡ bit (p e) + length (filter p es)
filter_more p e es = by_test (p e)
  where
    by_test : (b : Bool) → length (if b then e ∷ filter p es else filter p es) ≡ bit b + length (filter p es)
    by_test true = omega arith
    by_test false = omega arith

counts_from : (terms : Terms) (core : CoreState) (history : History Step Answer) (key : ℕ) → AreAnswered terms core history
    → count_in ((goes_on terms core history).states key) + losses key history
    ≡ count_in (core.states key) + loaded key history + gains key history
counts_from terms core [] key answered = omega arith
counts_from terms core (e ∷ es) key answered =
    let one = one_event terms core e key answered.0 in
    let rest = counts_from terms (core_after terms core e.step) es key answered.1 in
    let g = filter_more (λ (event : Event Step Answer). key_in event.step == key && is_gain event.answer) e es in
    let l = filter_more (λ (event : Event Step Answer). key_in event.step == key && is_loss event.answer) e es in
    let d = sum_by-cons
    (λ (event : Event Step Answer). if key_in event.step == key && is_done event.answer then handed_in event.step else 0) e es in
    omega arith

pub counts_add : (terms : Terms) (history : History Step Answer) (key : ℕ) → AreAnswered terms (first_core terms) history
    → count_in ((core_at terms history).states key) + losses key history ≡ loaded key history + gains key history
counts_add terms history key answered = let all = counts_from terms (first_core terms) history key answered in omega arith
