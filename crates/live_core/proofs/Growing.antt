-- What the table of a core's keys keeps true over a step.
use Rattle.std.proofs.Common.{◌≡◌, ℕ, ◌+◌, ◌-◌, ◌<◌, ◌≤◌, ◌==◌, ◌≢◌, Bool, true, false, nat_lt, if◌then◌else◌, List, [], ◌∷◌, ◌++◌, length, slice_set, slice_index_or, refl, sym, ap, ◌∙◌, subst, length-append, arith}
use Rattle.std.proofs.lemmas.Bool.Decides.{nat_tests}
use Rattle.std.proofs.lemmas.List.{length-set, get_or-set_same, get_or-set_other, get_or_past}
use Rattle.machine_model.specs.declared.machine.Event.{Event}
use Rattle.machine_model.specs.Histories.{History, kept_of}
use Rattle.live_core.specs.declared.steps.KeyState.{KeyState}
use Rattle.live_core.specs.declared.steps.KeyState.TheVariants.{Idle}
use Rattle.live_core.specs.declared.steps.Step.{Step}
use Rattle.live_core.specs.declared.steps.Answer.{Answer}
use Rattle.live_core.specs.declared.steps.Terms.{Terms}
use Rattle.live_core.specs.declared.moves.Move.{Move}
use Rattle.live_core.specs.Moves.{stray, move_of, key_in, is_kept, count_in}
use Rattle.live_core.specs.Cores.{put, moved, core_after, core_at}
use Rattle.live_core.specs.Views.{keeps}
use Rattle.live_core.specs.Tables.{AreStates, AreSmall, IsSmallLoad, most_before}
use Rattle.live_core.proofs.Goes.{Goes, stays, leads, loads, fails, news, hits, falls}
use Rattle.live_core.proofs.Keeping.{moved_goes, core_kept}

-- how many events a step adds
abbrev pub added : Step → Answer → ℕ
added step answer = length (kept_of keeps step answer)

pub kept_adds : (step : Step) (answer : Answer) → is_kept answer ≡ true → added step answer ≡ 1
kept_adds step answer kept = by_test (is_kept answer) kept
  where
    by_test : (b : Bool) → b ≡ true → length {A = Event Step Answer} (if b then record { step = step; answer = answer } ∷ [] else []) ≡ 1
    by_test true e = refl
    by_test false e = absurd (cc e)

-- the number of homes rises by the events at the most
pub homes_grow : (step : Step) (state : KeyState) (homes : ℕ) (m : Move) → Goes step state homes m → m.homes ≤ homes + added step m.answer
homes_grow step state homes m (stays s h a) = omega arith
homes_grow step state homes m (leads lane key e before s h a) = omega arith
homes_grow step state homes m (loads lane key home e before s h a) = omega arith
homes_grow step state homes m (fails lane key e before s h a) = omega arith
homes_grow step state homes m (news known next before none s one h a) = let long = kept_adds step m.answer (ap is_kept a) in omega arith
homes_grow step state homes m (hits live next before some s one h a) = omega arith
homes_grow step state homes m (falls live next before some s one h a) = by_test (live.home.count == 1) h
  where
    by_test : (last : Bool) → m.homes ≡ (if last then homes - 1 else homes) → m.homes ≤ homes + added step m.answer
    by_test true e = omega arith
    by_test false e = omega arith

-- the count at the step's key too
pub counts_grow : (step : Step) (state : KeyState) (homes before_it : ℕ) (m : Move) → Goes step state homes m → IsSmallLoad step
    → count_in state ≤ most_before + before_it → count_in m.state ≤ most_before + (before_it + added step m.answer)
counts_grow step state homes n m (stays s h a) load small = let same = ap count_in s in omega arith
counts_grow step state homes n m (leads lane key e before s h a) load small = let same = ap count_in s in omega arith
counts_grow step state homes n m (loads lane key home e before s h a) load small =
    let same = ap count_in s in let most = subst IsSmallLoad e load in omega arith
counts_grow step state homes n m (fails lane key e before s h a) load small = let same = ap count_in s in omega arith
counts_grow step state homes n m (news known next before none s one h a) load small =
    let same = ap count_in s in let long = kept_adds step m.answer (ap is_kept a) in omega arith
counts_grow step state homes n m (hits live next before some s one h a) load small =
    let same = ap count_in s in let had = ap count_in before in let long = kept_adds step m.answer (ap is_kept a) in
    omega arith
counts_grow step state homes n m (falls live next before some s one h a) load small =
    let same = ap count_in s in let had = ap count_in before in omega arith

past_is : (a b : ℕ) → b ≤ a → nat_lt a b ≡ false
past_is a b far = grind (arith, nat_tests)

lt_is : (a b : ℕ) → nat_lt a b ≡ true → a < b
lt_is a b e = grind (arith, nat_tests)

not_lt : (a b : ℕ) → nat_lt a b ≡ false → b ≤ a
not_lt a b e = grind (arith, nat_tests)

other : (a b : ℕ) → (a == b) ≡ false → a ≢ b
other a b e same = absurd (grind (arith, nat_tests))

module _ (terms : Terms) (history : History Step Answer) (step : Step) (m : Move) (is : m ≡ moved terms (core_at terms history) step)
    (later : History Step Answer) (longer : later ≡ history ++ kept_of keeps step m.answer) where
  -- where the history has come to
  core_now : core_at terms later ≡ core_after terms (core_at terms history) step
  core_now = ap (λ (h : History Step Answer). core_at terms h)
      (longer ∙ ap (λ (x : Move). history ++ kept_of keeps step x.answer) is) ∙ core_kept terms history step

  went : Goes step ((core_at terms history).states (key_in step)) (core_at terms history).homes m
  went = subst (λ (x : Move). Goes step ((core_at terms history).states (key_in step)) (core_at terms history).homes x) (sym is)
      (moved_goes terms (core_at terms history) step)

  length_now : length later ≡ length history + added step m.answer
  length_now = ap (λ (h : History Step Answer). length h) longer ∙ length-append history (kept_of keeps step m.answer)

  state_now : (key : ℕ) → (core_at terms later).states key ≡ put (key_in step) m.state (core_at terms history).states key
  state_now key = ap (λ core. core.states key) core_now
      ∙ ap (λ (x : Move). put (key_in step) x.state (core_at terms history).states key) (sym is)

  pub homes_now : m.homes ≡ (core_at terms later).homes
  homes_now = ap (λ (x : Move). x.homes) is ∙ sym (ap (λ core. core.homes) core_now)

  pub few_now : (homes : ℕ) → homes ≡ (core_at terms history).homes → homes ≤ most_before + length history
      → m.homes ≤ most_before + length later
  few_now homes same few = let grows = homes_grow step _ _ m went in let long = length_now in omega arith

  pub small_now : IsSmallLoad step → AreSmall terms history → AreSmall terms later
  small_now load small key = subst (λ (state : KeyState). count_in state ≤ most_before + length later) (sym (state_now key))
      (by_test (key == key_in step))
    where
      by_test : (here : Bool)
          → count_in (if here then m.state else (core_at terms history).states key) ≤ most_before + length later
      by_test true = let grows = counts_grow step _ _ (length history) m went load (small (key_in step)) in
          let long = length_now in omega arith
      by_test false = let before : count_in ((core_at terms history).states key) ≤ most_before + length history = small key in
          let long = length_now in omega arith

  pub states_now : (states changed : List KeyState) (at : ℕ) → length states ≡ terms.keys → AreStates terms history states
      → at ≡ key_in step → changed ≡ slice_set states at m.state → AreStates terms later changed
  states_now states changed at wide are here set key =
      ap (λ (xs : List KeyState). slice_index_or xs key Idle) (set ∙ ap (λ (k : ℕ). slice_set states k m.state) here)
      ∙ by_test (key == key_in step) refl ∙ sym (state_now key)
    where
      outside : Move → Type 0
      outside x = x.state ≡ (core_at terms history).states (key_in step)

      past : terms.keys ≤ key_in step → m.state ≡ (core_at terms history).states (key_in step)
      past far = subst outside (sym is) (ap (λ (b : Bool). (if b then
          move_of terms step ((core_at terms history).states (key_in step)) (core_at terms history).homes
          else stray ((core_at terms history).states (key_in step)) (core_at terms history).homes).state)
          (past_is (key_in step) terms.keys far))

      same_key : (b : Bool) → (key == key_in step) ≡ b → b ≡ true → key ≡ key_in step
      same_key b e f = grind (arith, nat_tests)

      there : (inside : Bool) → nat_lt (key_in step) (length states) ≡ inside
          → slice_index_or (slice_set states (key_in step) m.state) (key_in step) Idle ≡ m.state
      there true e = get_or-set_same states (key_in step) m.state Idle (lt_is (key_in step) (length states) e)
      there false e =
          let far = not_lt (key_in step) (length states) e in
          let long = length-set states (key_in step) m.state in
          get_or_past (slice_set states (key_in step) m.state) (key_in step) Idle (omega arith)
          ∙ sym (get_or_past states (key_in step) Idle far) ∙ are (key_in step) ∙ sym (past (omega arith))

      by_test : (b : Bool) → (key == key_in step) ≡ b
          → slice_index_or (slice_set states (key_in step) m.state) key Idle ≡ (if b then m.state else (core_at terms history).states key)
      by_test true e = let one : key ≡ key_in step = same_key true e refl in
          subst (λ (k : ℕ). slice_index_or (slice_set states (key_in step) m.state) k Idle ≡ m.state) (sym one)
          (there (nat_lt (key_in step) (length states)) refl)
      by_test false e = get_or-set_other states (key_in step) key m.state Idle (other key (key_in step) e) ∙ are key
