-- What a key's state keeps over the steps of all lanes: who leads it, and that it is known.
use Rattle.std.proofs.Common.{◌≡◌, ℕ, ◌==◌, ◌&&◌, ◌||◌, Bool, true, false, nat_lt, if◌then◌else◌, List, [], ◌∷◌, ◌++◌, fold, refl, sym, ap, ◌∙◌, subst, eq-eqb, arith, Option}
use Rattle.std.specs.List.{list_any}
use Rattle.std.proofs.lemmas.Bool.Decides.{nat_tests}
use Rattle.std.proofs.lemmas.List.Sums.{fold-append}
use Rattle.ddt_entry.specs.declared.entry.Home.{Home}
use Rattle.machine_model.specs.declared.machine.Event.{Event}
use Rattle.machine_model.specs.Histories.{History}
use Rattle.live_core.specs.declared.steps.KeyState.{KeyState}
use Rattle.live_core.specs.declared.steps.KeyState.TheVariants.{Idle, Led, Known}
use Rattle.live_core.specs.declared.steps.Step.{Step}
use Rattle.live_core.specs.declared.steps.Step.TheVariants.{Claim, Loaded}
use Rattle.live_core.specs.declared.steps.Answer.{Answer}
use Rattle.live_core.specs.declared.steps.Answer.TheVariants as answers
use Rattle.live_core.specs.declared.steps.Terms.{Terms}
use Rattle.live_core.specs.declared.moves.Move.{Move}
use Rattle.live_core.specs.Moves.{key_in, stray, lead, on_disk}
use Rattle.live_core.specs.Cores.{CoreState, put, first_core, moved, core_after, core_at, answer_at}
use Rattle.live_core.specs.Events.{is_known, gives_up, loads_key}
use Rattle.live_core.proofs.Goes.{Goes, is_still, stays, leads, loads, fails, news, hits, falls}
use Rattle.live_core.proofs.Keeping.{moved_goes}

pub either_false : (a b : Bool) → (a || b) ≡ false → (a ≡ false) × (b ≡ false)
either_false false false e = (refl, refl)
either_false false true e = absurd (cc e)
either_false true b e = absurd (cc e)

both_true : (a b c d : ℕ) → a ≡ b → c ≡ d → (a == b && c == d) ≡ true
both_true a b c d one two = ap (λ (x : Bool). x && c == d) (eq-eqb a b one) ∙ eq-eqb c d two

-- a state put at its key, and looked at there or elsewhere
pub put_here : (at : ℕ) (state : KeyState) (states : ℕ → KeyState) → put at state states at ≡ state
put_here at state states = ap (λ (b : Bool). if b then state else states at) (eq-eqb at at refl)

-- from a core on, the events' steps
abbrev pub goes_on : Terms → CoreState → List (Event Step Answer) → CoreState
goes_on terms core events = fold (λ at event. core_after terms at event.step) core events

pub core_beyond : (terms : Terms) (before more : History Step Answer)
    → core_at terms (before ++ more) ≡ goes_on terms (core_at terms before) more
core_beyond terms before more = fold-append (λ core (e : Event Step Answer). core_after terms core e.step) (first_core terms) before more

-- what each step but some keeps of a key's state, all of them keep
module _ (terms : Terms) (key : ℕ) (P : KeyState → Type 0) (breaks : Step → Bool)
    (keeps_it : (step : Step) (state : KeyState) (homes : ℕ) (m : Move) → key_in step ≡ key → breaks step ≡ false → Goes step state homes m
    → P state → P m.state) where
  kept_by_one : (core : CoreState) (step : Step) → breaks step ≡ false → P (core.states key) → P ((core_after terms core step).states key)
  kept_by_one core step safe p = by_test (key == key_in step) refl
    where
      by_test : (here : Bool) → (key == key_in step) ≡ here → P (if here then (moved terms core step).state else core.states key)
      by_test true test = let one : key_in step ≡ key = grind (arith, nat_tests) in
          keeps_it step (core.states (key_in step)) core.homes (moved terms core step) one safe (moved_goes terms core step)
          (subst (λ (k : ℕ). P (core.states k)) (sym one) p)
      by_test false test = p

  pub kept_by_all : (core : CoreState) (events : List (Event Step Answer))
      → list_any (λ (e : Event Step Answer). breaks e.step) events ≡ false
      → P (core.states key) → P ((goes_on terms core events).states key)
  kept_by_all core [] safe p = p
  kept_by_all core (e ∷ es) safe p =
      let both = either_false (breaks e.step) (list_any (λ (x : Event Step Answer). breaks x.step) es) safe in
      kept_by_all (core_after terms core e.step) es both.1 (kept_by_one core e.step both.0 p)

-- a lane that leads leads on
led_on : (lane key : ℕ) (step : Step) (state : KeyState) (homes : ℕ) (m : Move) → key_in step ≡ key
    → (loads_key lane key step || gives_up lane key step) ≡ false → Goes step state homes m → state ≡ Led lane → m.state ≡ Led lane
led_on lane key step state homes m at safe (stays s h a) led = s ∙ led
led_on lane key step state homes m at safe (leads by k e before s h a) led = absurd (cc (sym before ∙ led))
led_on lane key step state homes m at safe (loads by k home e before s h a) led =
    let one : by ≡ lane = cc (sym before ∙ led) in
    let there : k ≡ key = sym (ap key_in e) ∙ at in
    let does : loads_key lane key step ≡ true = ap (loads_key lane key) e ∙ both_true by lane k key one there in
    absurd (cc (sym (either_false (loads_key lane key step) (gives_up lane key step) safe).0 ∙ does))
led_on lane key step state homes m at safe (fails by k e before s h a) led =
    let one : by ≡ lane = cc (sym before ∙ led) in
    let there : k ≡ key = sym (ap key_in e) ∙ at in
    let does : gives_up lane key step ≡ true = ap (gives_up lane key) e ∙ both_true by lane k key one there in
    absurd (cc (sym (either_false (loads_key lane key step) (gives_up lane key step) safe).1 ∙ does))
led_on lane key step state homes m at safe (news known next before none s one h a) led = absurd (cc (sym before ∙ led))
led_on lane key step state homes m at safe (hits live next before some s one h a) led = absurd (cc (sym before ∙ led))
led_on lane key step state homes m at safe (falls live next before some s one h a) led = absurd (cc (sym before ∙ led))

pub stays_led : (terms : Terms) (before more : History Step Answer) (lane key : ℕ) → (core_at terms before).states key ≡ Led lane
    → list_any (λ (e : Event Step Answer). loads_key lane key e.step || gives_up lane key e.step) more ≡ false
    → (core_at terms (before ++ more)).states key ≡ Led lane
stays_led terms before more lane key led safe = ap (λ core. core.states key) (core_beyond terms before more)
    ∙ kept_by_all terms key (λ (s : KeyState). s ≡ Led lane) (λ (s : Step). loads_key lane key s || gives_up lane key s) (led_on lane key)
    (core_at terms before) more safe led

-- a lane leads the key, or it is known
abbrev IsPast : (lane : ℕ) → KeyState → Type 0
IsPast lane Idle = ⊥
IsPast lane (Led other) = other ≡ lane
IsPast lane (Known known) = Unit {0}

past_on : (lane key : ℕ) (step : Step) (state : KeyState) (homes : ℕ) (m : Move) → key_in step ≡ key → gives_up lane key step ≡ false
    → Goes step state homes m → IsPast lane state → IsPast lane m.state
past_on lane key step state homes m at safe (stays s h a) past = subst (IsPast lane) (sym s) past
past_on lane key step state homes m at safe (leads by k e before s h a) past = absurd (subst (IsPast lane) before past)
past_on lane key step state homes m at safe (loads by k home e before s h a) past = subst (IsPast lane) (sym s) tt
past_on lane key step state homes m at safe (fails by k e before s h a) past =
    let one : by ≡ lane = subst (IsPast lane) before past in
    let there : k ≡ key = sym (ap key_in e) ∙ at in
    let does : gives_up lane key step ≡ true = ap (gives_up lane key) e ∙ both_true by lane k key one there in
    absurd (cc (sym safe ∙ does))
past_on lane key step state homes m at safe (news known next before none s one h a) past = subst (IsPast lane) (sym s) tt
past_on lane key step state homes m at safe (hits live next before some s one h a) past = subst (IsPast lane) (sym s) tt
past_on lane key step state homes m at safe (falls live next before some s one h a) past = subst (IsPast lane) (sym s) tt

-- what an answer Lead tells
record HasLed (step : Step) (state : KeyState) (m : Move) : Type 0 where
  was : state ≡ Idle
  lane : ℕ
  key : ℕ
  claims : step ≡ Claim lane key
  leads_it : m.state ≡ Led lane

has_led : (step : Step) (state : KeyState) (homes : ℕ) (m : Move) → Goes step state homes m → m.answer ≡ answers.Lead → HasLed step state m
has_led step state homes m (stays s h a) lead = absurd (cc (sym (ap is_still lead) ∙ a))
has_led step state homes m (leads by k e before s h a) lead =
    record { was = before; lane = by; key = k; claims = e; leads_it = s }
has_led step state homes m (loads by k home e before s h a) lead = absurd (cc (sym a ∙ lead))
has_led step state homes m (fails by k e before s h a) lead = absurd (cc (sym a ∙ lead))
has_led step state homes m (news known next before none s one h a) lead = absurd (cc (sym a ∙ lead))
has_led step state homes m (hits live next before some s one h a) lead = absurd (cc (sym a ∙ lead))
has_led step state homes m (falls live next before some s one h a) lead = absurd (cc (sym a ∙ lead))

pub second_lead : (terms : Terms) (before between : History Step Answer) (lane other key : ℕ)
    → answer_at terms before (Claim lane key) ≡ answers.Lead
    → answer_at terms (before ++ record { step = Claim lane key; answer = answers.Lead } ∷ between) (Claim other key) ≡ answers.Lead
    → list_any (λ (e : Event Step Answer). gives_up lane key e.step) between ≡ true
second_lead terms before between lane other key first second =
    by_test (list_any (λ (e : Event Step Answer). gives_up lane key e.step) between) refl
  where
    event : Event Step Answer
    event = record { step = Claim lane key; answer = answers.Lead }

    taken : HasLed (Claim lane key) ((core_at terms before).states key) (moved terms (core_at terms before) (Claim lane key))
    taken = has_led (Claim lane key) ((core_at terms before).states key) (core_at terms before).homes
        (moved terms (core_at terms before) (Claim lane key)) (moved_goes terms (core_at terms before) (Claim lane key)) first

    leader : (moved terms (core_at terms before) (Claim lane key)).state ≡ Led lane
    leader = let one : taken.lane ≡ lane = cc (sym taken.claims) in taken.leads_it ∙ ap Led one

    then_led : (core_after terms (core_at terms before) (Claim lane key)).states key ≡ Led lane
    then_led = put_here key (moved terms (core_at terms before) (Claim lane key)).state (core_at terms before).states ∙ leader

    late : CoreState
    late = core_at terms (before ++ event ∷ between)

    idle : late.states key ≡ Idle
    idle = (has_led (Claim other key) (late.states key) late.homes (moved terms late (Claim other key))
        (moved_goes terms late (Claim other key)) second).was

    by_test : (b : Bool) → list_any (λ (e : Event Step Answer). gives_up lane key e.step) between ≡ b → b ≡ true
    by_test true e = refl
    by_test false e = absurd (subst (IsPast lane) (sym (ap (λ core. core.states key) (core_beyond terms before (event ∷ between))) ∙ idle)
        (kept_by_all terms key (IsPast lane) (gives_up lane key) (past_on lane key)
        (core_after terms (core_at terms before) (Claim lane key)) between e (subst (IsPast lane) (sym then_led) refl)))

known_on : (key : ℕ) (step : Step) (state : KeyState) (homes : ℕ) (m : Move) → key_in step ≡ key → false ≡ false
    → Goes step state homes m → is_known state ≡ true → is_known m.state ≡ true
known_on key step state homes m at safe (stays s h a) known = ap is_known s ∙ known
known_on key step state homes m at safe (leads by k e before s h a) known = absurd (cc (sym (ap is_known before) ∙ known))
known_on key step state homes m at safe (loads by k home e before s h a) known = ap is_known s
known_on key step state homes m at safe (fails by k e before s h a) known = absurd (cc (sym (ap is_known before) ∙ known))
known_on key step state homes m at safe (news was next before none s one h a) known = ap is_known s
known_on key step state homes m at safe (hits live next before some s one h a) known = ap is_known s
known_on key step state homes m at safe (falls live next before some s one h a) known = ap is_known s

none_breaks : (events : List (Event Step Answer)) → list_any (λ (e : Event Step Answer). false) events ≡ false
none_breaks [] = refl
none_breaks (e ∷ es) = none_breaks es

known_from : (terms : Terms) (core : CoreState) (more : History Step Answer) (key : ℕ) → is_known (core.states key) ≡ true
    → is_known ((goes_on terms core more).states key) ≡ true
known_from terms core more key known = kept_by_all terms key (λ (s : KeyState). is_known s ≡ true) (λ (s : Step). false) (known_on key)
    core more (none_breaks more) known

pub stays_known : (terms : Terms) (before more : History Step Answer) (key : ℕ) → is_known ((core_at terms before).states key) ≡ true
    → is_known ((core_at terms (before ++ more)).states key) ≡ true
stays_known terms before more key known = ap (λ core. is_known (core.states key)) (core_beyond terms before more)
    ∙ known_from terms (core_at terms before) more key known

-- a home that is taken in makes its key known
load_knows : (lane key : ℕ) (home : Option Home) (state : KeyState) (homes : ℕ) (m : Move) → Goes (Loaded lane key home) state homes m
    → m.answer ≡ answers.Done → is_known m.state ≡ true
load_knows lane key home state homes m (stays s h a) done = absurd (cc (sym (ap is_still done) ∙ a))
load_knows lane key home state homes m (leads by k e before s h a) done = absurd (cc (sym a ∙ done))
load_knows lane key home state homes m (loads by k it e before s h a) done = ap is_known s
load_knows lane key home state homes m (fails by k e before s h a) done = absurd (cc e)
load_knows lane key home state homes m (news known next before none s one h a) done = absurd (cc (sym a ∙ done))
load_knows lane key home state homes m (hits live next before some s one h a) done = absurd (cc (sym a ∙ done))
load_knows lane key home state homes m (falls live next before some s one h a) done = absurd (cc (sym a ∙ done))

late_is_stray : (lane homes : ℕ) (next state : KeyState) (inside : Bool) → is_known state ≡ true
    → (if inside then lead lane next state homes else stray state homes).answer ≡ answers.Stray
late_is_stray lane homes next Idle true known = refl
late_is_stray lane homes next (Led other) true known = absurd (cc known)
late_is_stray lane homes next (Known it) true known = refl
late_is_stray lane homes next state false known = refl

pub known_after : (terms : Terms) (before more : History Step Answer) (lane key : ℕ) (home : Option Home)
    → answer_at terms before (Loaded lane key home) ≡ answers.Done
    → is_known ((core_at terms (before ++ record { step = Loaded lane key home; answer = answers.Done } ∷ more)).states key) ≡ true
known_after terms before more lane key home done =
    ap (λ core. is_known (core.states key)) (core_beyond terms before (event ∷ more))
    ∙ known_from terms (core_after terms (core_at terms before) (Loaded lane key home)) more key
    (ap is_known (put_here key (moved terms (core_at terms before) (Loaded lane key home)).state (core_at terms before).states)
    ∙ load_knows lane key home ((core_at terms before).states key) (core_at terms before).homes
    (moved terms (core_at terms before) (Loaded lane key home)) (moved_goes terms (core_at terms before) (Loaded lane key home)) done)
  where
    event : Event Step Answer
    event = record { step = Loaded lane key home; answer = answers.Done }

pub loaded_once : (terms : Terms) (before between : History Step Answer) (lane other key : ℕ) (home late : Option Home)
    → answer_at terms before (Loaded lane key home) ≡ answers.Done
    → answer_at terms (before ++ record { step = Loaded lane key home; answer = answers.Done } ∷ between) (Loaded other key late)
    ≡ answers.Stray
loaded_once terms before between lane other key home late done =
    late_is_stray other (core_at terms (before ++ event ∷ between)).homes (Known (on_disk late))
    ((core_at terms (before ++ event ∷ between)).states key) (nat_lt key terms.keys) (known_after terms before between lane key home done)
  where
    event : Event Step Answer
    event = record { step = Loaded lane key home; answer = answers.Done }
