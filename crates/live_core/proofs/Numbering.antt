-- The number of homes against the states of all keys.
use Rattle.std.proofs.Common.{◌≡◌, ◌≢◌, ℕ, zero, suc, ◌+◌, ◌-◌, ◌<◌, ◌≤◌, ◌==◌, ◌&&◌, Bool, true, false, nat_lt, if◌then◌else◌, List, [], ◌∷◌, Option, Some, None, refl, sym, ap, ◌∙◌, subst, ne_eqb, arith}
use Rattle.std.specs.List.{AllByRecursion}
use Rattle.std.proofs.lemmas.Bool.Decides.{nat_tests}
use Rattle.std.proofs.lemmas.Option.{get_or_from_slice_get}
use mathlib.Core.Logic.{dite}
use native.Mathlib.Decide.{ℕ_discrete}
use Rattle.ddt_entry.specs.declared.entry.Home.{Home}
use Rattle.machine_model.specs.declared.machine.Event.{Event}
use Rattle.machine_model.specs.Histories.{History}
use Rattle.live_core.specs.declared.steps.KeyState.{KeyState}
use Rattle.live_core.specs.declared.steps.Step.{Step}
use Rattle.live_core.specs.declared.steps.Step.TheVariants.{Loaded}
use Rattle.live_core.specs.declared.steps.Answer.{Answer}
use Rattle.live_core.specs.declared.moves.Move.{Move}
use Rattle.live_core.specs.Moves.{key_in, count_in, move_of, stray, on_disk, references}
use Rattle.live_core.specs.Cores.{CoreState, put, core_after, first_core, core_at}
use Rattle.live_core.specs.Bases.{Base, IsToldHome, IsLoad}
use Rattle.live_core.specs.Events.{is_known, how_many, is_told_live}
use Rattle.live_core.proofs.Goes.{Goes, stays, leads, loads, fails, news, hits, falls, goes}
use Rattle.live_core.proofs.Keeping.{put_same}
use Rattle.live_core.proofs.Leading.{put_here, goes_on}
use Rattle.live_core.proofs.Counting.{bit}

many_same : (f g : ℕ → Bool) (n : ℕ) → ((k : ℕ) → k < n → f k ≡ g k) → how_many f n ≡ how_many g n
many_same f g zero same = refl
many_same f g (suc n) same =
    let rest = many_same f g n (λ k less. same k (omega arith)) in
    let here : bit (f n) ≡ bit (g n) = ap bit (same n (omega arith)) in omega arith

-- one number changes
many_changed : (f g : ℕ → Bool) (k n : ℕ) → k < n → ((j : ℕ) → j ≢ k → f j ≡ g j) → how_many f n + bit (g k) ≡ how_many g n + bit (f k)
many_changed f g k zero inside same = absurd (omega arith)
many_changed f g k (suc n) inside same = dite (ℕ_discrete k n)
    (λ e. let rest = many_same f g n (λ j less. same j (λ is. omega arith)) in
    let one = ap (λ (x : ℕ). bit (f x)) e in let two = ap (λ (x : ℕ). bit (g x)) e in omega arith)
    (λ ne. let rest = many_changed f g k n (omega arith) same in
    let here : bit (f n) ≡ bit (g n) = ap bit (same n (λ is. ne (sym is))) in omega arith)

many_fewer : (f g : ℕ → Bool) (n : ℕ) → ((k : ℕ) → bit (f k) ≤ bit (g k)) → how_many f n ≤ how_many g n
many_fewer f g zero less = omega arith
many_fewer f g (suc n) less = let rest = many_fewer f g n less in let here = less n in omega arith

many_some : (f : ℕ → Bool) (k n : ℕ) → k < n → f k ≡ true → 0 < how_many f n
many_some f k zero inside is = absurd (omega arith)
many_some f k (suc n) inside is = dite (ℕ_discrete k n)
    (λ e. let here : bit (f n) ≡ 1 = ap bit (subst (λ (x : ℕ). f x ≡ true) e is) in omega arith)
    (λ ne. let rest = many_some f k n (omega arith) is in omega arith)

put_other : (at : ℕ) (state : KeyState) (states : ℕ → KeyState) (key : ℕ) → key ≢ at → put at state states key ≡ states key
put_other at state states key other = ap (λ (b : Bool). if b then state else states key) (ne_eqb key at other)

abbrev is_live : KeyState → Bool
is_live state = nat_lt 0 (count_in state)

live_bit : (state : KeyState) (n : ℕ) → count_in state ≡ n → 0 < n → bit (is_live state) ≡ 1
live_bit state n e some = let test : nat_lt 0 (count_in state) ≡ true = grind (arith, nat_tests) in ap bit test

dead_bit : (state : KeyState) → count_in state ≡ 0 → bit (is_live state) ≡ 0
dead_bit state e = let test : nat_lt 0 (count_in state) ≡ false = grind (arith, nat_tests) in ap bit test

module _ (base : Base) (homes : List (Option Home)) (told : base.told.homes ≡ Some homes)
    (enough : how_many (is_told_live homes) base.terms.keys ≤ base.terms.homes) where
  abbrev known_live : CoreState → ℕ
  known_live core = how_many (λ key. is_known (core.states key) && is_told_live homes key) base.terms.keys

  abbrev now_live : CoreState → ℕ
  now_live core = how_many (λ key. is_live (core.states key)) base.terms.keys

  abbrev Adds : CoreState → Type 0
  Adds core = core.homes + known_live core ≡ base.terms.homes + now_live core

  known_fewer : (core : CoreState) → known_live core ≤ how_many (is_told_live homes) base.terms.keys
  known_fewer core = many_fewer (λ key. is_known (core.states key) && is_told_live homes key) (is_told_live homes) base.terms.keys
      (λ key. by_test (is_known (core.states key)) (is_told_live homes key))
    where
      by_test : (a b : Bool) → bit (a && b) ≤ bit b
      by_test true b = omega arith
      by_test false b = omega arith

  -- the bits of the step's key before and after
  abbrev told_bit : (key : ℕ) → KeyState → ℕ
  told_bit key state = bit (is_known state && is_told_live homes key)

  -- what a step has to do to the number, at its own key
  abbrev Shifts : (key : ℕ) → KeyState → ℕ → Move → Type 0
  Shifts key state number m = m.homes + told_bit key m.state + bit (is_live state) ≡ number + told_bit key state + bit (is_live m.state)

  -- a home that is handed in is the told one
  load_live : (step : Step) (lane key : ℕ) (home : Option Home) → step ≡ Loaded lane key home → IsLoad base step
      → is_told_live homes key ≡ nat_lt 0 (references (on_disk home))
  load_live step lane key home e load =
      let its = subst (IsLoad base) e load in
      let there = subst (λ (t : Option (List (Option Home))). IsToldHome t key home) told its.0 in
      ap (λ (h : Option Home). nat_lt 0 (references (on_disk h))) (get_or_from_slice_get homes key home None there)

  shifts : (step : Step) (state : KeyState) (number : ℕ) (m : Move) → IsLoad base step → (bit (is_live state) ≡ 1 → 0 < number)
      → Goes step state number m → Shifts (key_in step) state number m
  shifts step state number m load some (stays s h a) =
      let one = ap (λ (x : KeyState). told_bit (key_in step) x) s in let two = ap (λ (x : KeyState). bit (is_live x)) s in omega arith
  shifts step state number m load some (leads by k e before s h a) =
      let one = ap (λ (x : KeyState). told_bit (key_in step) x) s in let two = ap (λ (x : KeyState). bit (is_live x)) s in
      let three = ap (λ (x : KeyState). told_bit (key_in step) x) before in
      let four = ap (λ (x : KeyState). bit (is_live x)) before in omega arith
  shifts step state number m load some (loads by k home e before s h a) =
      let one = ap (λ (x : KeyState). told_bit (key_in step) x) s in let two = ap (λ (x : KeyState). bit (is_live x)) s in
      let three = ap (λ (x : KeyState). told_bit (key_in step) x) before in let four = ap (λ (x : KeyState). bit (is_live x)) before in
      let at : key_in step ≡ k = ap key_in e in
      let five = ap bit (ap (is_told_live homes) at ∙ load_live step by k home e load) in omega arith
  shifts step state number m load some (fails by k e before s h a) =
      let one = ap (λ (x : KeyState). told_bit (key_in step) x) s in let two = ap (λ (x : KeyState). bit (is_live x)) s in
      let three = ap (λ (x : KeyState). told_bit (key_in step) x) before in
      let four = ap (λ (x : KeyState). bit (is_live x)) before in omega arith
  shifts step state number m load some (news known next before none s one h a) =
      let told_now = ap (λ (x : KeyState). told_bit (key_in step) x) s in
      let told_then = ap (λ (x : KeyState). told_bit (key_in step) x) before in
      let now = live_bit m.state 1 (ap count_in s ∙ one) (omega arith) in
      let then_it = dead_bit state (ap count_in before ∙ none) in omega arith
  shifts step state number m load some (hits live next before has s one h a) =
      let told_now = ap (λ (x : KeyState). told_bit (key_in step) x) s in
      let told_then = ap (λ (x : KeyState). told_bit (key_in step) x) before in
      let now = live_bit m.state (live.home.count + 1) (ap count_in s ∙ one) (omega arith) in
      let then_it = live_bit state live.home.count (ap count_in before) has in omega arith
  shifts step state number m load some (falls live next before has s one h a) = by_test (live.home.count == 1) refl
    where
      told_now : told_bit (key_in step) m.state ≡ told_bit (key_in step) state
      told_now = ap (λ (x : KeyState). told_bit (key_in step) x) s ∙ sym (ap (λ (x : KeyState). told_bit (key_in step) x) before)

      had : bit (is_live state) ≡ 1
      had = live_bit state live.home.count (ap count_in before) has

      is_one : (b : Bool) → (live.home.count == 1) ≡ b → b ≡ true → live.home.count ≡ 1
      is_one b e f = grind (arith, nat_tests)

      is_more : (b : Bool) → (live.home.count == 1) ≡ b → b ≡ false → 0 < live.home.count - 1
      is_more b e f = grind (arith, nat_tests)

      by_test : (last : Bool) → (live.home.count == 1) ≡ last → Shifts (key_in step) state number m
      by_test true e =
          let only = is_one true e refl in
          let gone = dead_bit m.state (ap count_in s ∙ one ∙ ap (λ (n : ℕ). n - 1) only) in
          let lower : m.homes ≡ number - 1 = h ∙ ap (λ (b : Bool). if b then number - 1 else number) e in
          let more = some had in let same = told_now in let was = had in omega arith
      by_test false e =
          let left = live_bit m.state (live.home.count - 1) (ap count_in s ∙ one) (is_more false e refl) in
          let same_number : m.homes ≡ number = h ∙ ap (λ (b : Bool). if b then number - 1 else number) e in
          let same = told_now in let was = had in omega arith

  -- a step at a key of the group
  adds_inside : (core : CoreState) (step : Step) (m : Move) → key_in step < base.terms.keys → IsLoad base step
      → Goes step (core.states (key_in step)) core.homes m → Adds core
      → Adds (record { states = put (key_in step) m.state core.states; homes = m.homes })
  adds_inside core step m inside load went adds =
      let known = many_changed (λ key. is_known (put (key_in step) m.state core.states key) && is_told_live homes key)
      (λ key. is_known (core.states key) && is_told_live homes key) (key_in step) base.terms.keys inside
      (λ j other. ap (λ (s : KeyState). is_known s && is_told_live homes j) (put_other (key_in step) m.state core.states j other)) in
      let live = many_changed (λ key. is_live (put (key_in step) m.state core.states key)) (λ key. is_live (core.states key))
      (key_in step) base.terms.keys inside (λ j other. ap is_live (put_other (key_in step) m.state core.states j other)) in
      let here_told = ap (λ (s : KeyState). told_bit (key_in step) s) (put_here (key_in step) m.state core.states) in
      let here_live = ap (λ (s : KeyState). bit (is_live s)) (put_here (key_in step) m.state core.states) in
      let fewer = known_fewer core in
      let enough_of_them = enough in
      let moved_by = shifts step (core.states (key_in step)) core.homes m load
      (λ has. let some = many_some (λ key. is_live (core.states key)) (key_in step) base.terms.keys inside (bit_is _ has) in
      omega arith) went in
      omega arith
    where
      bit_is : (b : Bool) → bit b ≡ 1 → b ≡ true
      bit_is true e = refl
      bit_is false e = absurd (omega arith)

  adds_after : (core : CoreState) (step : Step) → IsLoad base step → Adds core → Adds (core_after base.terms core step)
  adds_after core step load adds = by_test (nat_lt (key_in step) base.terms.keys) refl
    where
      by : Bool → Move
      by inside = if inside then move_of base.terms step (core.states (key_in step)) core.homes
          else stray (core.states (key_in step)) core.homes

      by_test : (b : Bool) → nat_lt (key_in step) base.terms.keys ≡ b
          → Adds (record { states = put (key_in step) (by b).state core.states; homes = (by b).homes })
      by_test true e = let inside : key_in step < base.terms.keys = grind (arith, nat_tests) in
          adds_inside core step (move_of base.terms step (core.states (key_in step)) core.homes) inside load
          (goes base.terms step (core.states (key_in step)) core.homes) adds
      by_test false e =
          let same = put_same (key_in step) (core.states (key_in step)) core.states refl in
          let known = many_same
          (λ key. is_known (put (key_in step) (core.states (key_in step)) core.states key) && is_told_live homes key)
          (λ key. is_known (core.states key) && is_told_live homes key) base.terms.keys
          (λ k less. ap (λ (s : KeyState). is_known s && is_told_live homes k) (same k)) in
          let live = many_same (λ key. is_live (put (key_in step) (core.states (key_in step)) core.states key))
          (λ key. is_live (core.states key)) base.terms.keys (λ k less. ap is_live (same k)) in
          omega arith

  adds_from : (core : CoreState) (history : History Step Answer) → AllByRecursion (λ (e : Event Step Answer). IsLoad base e.step) history
      → Adds core → Adds (goes_on base.terms core history)
  adds_from core [] load adds = adds
  adds_from core (e ∷ es) load adds = adds_from (core_after base.terms core e.step) es load.1 (adds_after core e.step load.0 adds)

  none_known : (n : ℕ) → how_many (λ key. false) n ≡ 0
  none_known zero = refl
  none_known (suc n) = let rest = none_known n in omega arith

  pub homes_add : (history : History Step Answer) → AllByRecursion (λ (e : Event Step Answer). IsLoad base e.step) history
      → (core_at base.terms history).homes
      + how_many (λ key. is_known ((core_at base.terms history).states key) && is_told_live homes key) base.terms.keys
      ≡ base.terms.homes + how_many (λ key. nat_lt 0 (count_in ((core_at base.terms history).states key))) base.terms.keys
  homes_add history load = adds_from (first_core base.terms) history load
      (let one = none_known base.terms.keys in omega arith)
