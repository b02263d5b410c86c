-- The seven ways in which a step goes at the state of its key. Each law of the core looks at these, and not at the table.
use Rattle.std.proofs.Common.{◌≡◌, ℕ, ◌+◌, ◌-◌, ◌<◌, ◌==◌, ◌&&◌, Bool, true, false, nat_lt, if◌then◌else◌, Option, Some, None, refl, subst, arith}
use Rattle.std.proofs.lemmas.Bool.Decides.{nat_tests}
use Rattle.quota_rule.specs.Allows.{allows}
use Rattle.ddt_entry.specs.declared.entry.Home.{Home}
use Rattle.live_core.specs.declared.steps.Body.{Body}
use Rattle.live_core.specs.declared.steps.Body.TheVariants.{Command}
use Rattle.live_core.specs.declared.steps.LiveHome.{LiveHome}
use Rattle.live_core.specs.declared.steps.KeyState.{KeyState}
use Rattle.live_core.specs.declared.steps.KeyState.TheVariants.{Idle, Led, Known}
use Rattle.live_core.specs.declared.steps.Verdict.{Verdict}
use Rattle.live_core.specs.declared.steps.Verdict.TheVariants.{Trust, Absent, Same, Differs}
use Rattle.live_core.specs.declared.steps.Step.{Step}
use Rattle.live_core.specs.declared.steps.Step.TheVariants.{Claim, Loaded, Failed, Ref, Unref}
use Rattle.live_core.specs.declared.steps.Answer.{Answer}
use Rattle.live_core.specs.declared.steps.Answer.TheVariants as answers
use Rattle.live_core.specs.declared.steps.Terms.{Terms}
use Rattle.live_core.specs.declared.moves.Move.{Move}
use Rattle.live_core.specs.Moves.{move, stray, claim, lead, on_disk, new_home, make, hit, taken_up, take_up, share, part, again, is_its, refer, counts, counted, unrefer, on_known, move_of, references}

-- an answer that leaves all as it was
abbrev pub is_still : Answer → Bool
is_still answers.Lead = false
is_still answers.Done = false
is_still (answers.New home) = false
is_still (answers.Hit home) = false
is_still answers.Counted = false
is_still (answers.Held lane) = true
is_still (answers.Known known) = true
is_still (answers.Again known) = true
is_still answers.Quota = true
is_still answers.Clash = true
is_still answers.Loose = true
is_still answers.Stray = true

pub data Goes (step : Step) (state : KeyState) (homes : ℕ) (m : Move) : Type 0 where
  stays : m.state ≡ state → m.homes ≡ homes → is_still m.answer ≡ true → Goes step state homes m
  leads : (lane key : ℕ) → step ≡ Claim lane key → state ≡ Idle → m.state ≡ Led lane → m.homes ≡ homes → m.answer ≡ answers.Lead
      → Goes step state homes m
  loads : (lane key : ℕ) (home : Option Home) → step ≡ Loaded lane key home → state ≡ Led lane → m.state ≡ Known (on_disk home)
      → m.homes ≡ homes → m.answer ≡ answers.Done → Goes step state homes m
  fails : (lane key : ℕ) → step ≡ Failed lane key → state ≡ Led lane → m.state ≡ Idle → m.homes ≡ homes → m.answer ≡ answers.Done
      → Goes step state homes m
  news : (known : Option LiveHome) (next : LiveHome) → state ≡ Known known → references known ≡ 0 → m.state ≡ Known (Some next)
      → next.home.count ≡ 1 → m.homes ≡ homes + 1 → m.answer ≡ answers.New next.home → Goes step state homes m
  hits : (live next : LiveHome) → state ≡ Known (Some live) → 0 < live.home.count → m.state ≡ Known (Some next)
      → next.home.count ≡ live.home.count + 1 → m.homes ≡ homes → m.answer ≡ answers.Hit next.home → Goes step state homes m
  falls : (live next : LiveHome) → state ≡ Known (Some live) → 0 < live.home.count → m.state ≡ Known (Some next)
      → next.home.count ≡ live.home.count - 1 → m.homes ≡ (if live.home.count == 1 then homes - 1 else homes) → m.answer ≡ answers.Counted
      → Goes step state homes m

some_is : (n : ℕ) → nat_lt 0 n ≡ true → 0 < n
some_is n test = grind (arith, nat_tests)

none_is : (n : ℕ) → nat_lt 0 n ≡ false → n ≡ 0
none_is n test = grind (arith, nat_tests)

first_of : (a b c : Bool) → (a && b && c) ≡ true → a ≡ true
first_of true b c e = refl
first_of false b c e = absurd (cc e)

module _ (terms : Terms) (step : Step) (homes : ℕ) where
  make_goes : (body : Body) (place : ℕ) (known : Option LiveHome) → references known ≡ 0
      → Goes step (Known known) homes (make terms body place known homes)
  make_goes body place known none = by_room (allows homes terms.quota)
    where
      by_room : (room : Bool) → Goes step (Known known) homes (if room then move (answers.New (new_home terms place))
          (Known (Some (record { home = new_home terms place; body = body }))) (homes + 1)
          else move answers.Quota (Known known) homes)
      by_room true = news known _ refl none refl refl refl refl
      by_room false = stays refl refl refl

  take_up_goes : (live : LiveHome) → live.home.count ≡ 0 → Goes step (Known (Some live)) homes (take_up terms live homes)
  take_up_goes live none = by_room (allows homes terms.quota)
    where
      by_room : (room : Bool) → Goes step (Known (Some live)) homes
          (if room then move (answers.New (taken_up terms live.home))
          (Known (Some (record live { home = taken_up terms live.home }))) (homes + 1)
          else move answers.Quota (Known (Some live)) homes)
      by_room true = news (Some live) _ refl none refl refl refl refl
      by_room false = stays refl refl refl

  share_goes : (live : LiveHome) → Goes step (Known (Some live)) homes (share terms live homes)
  share_goes live = by_count (nat_lt 0 live.home.count) refl
    where
      by_count : (some : Bool) → nat_lt 0 live.home.count ≡ some
          → Goes step (Known (Some live)) homes (if some then hit live homes else take_up terms live homes)
      by_count true test = hits live _ refl (some_is live.home.count test) refl refl refl refl
      by_count false test = take_up_goes live (none_is live.home.count test)

  part_goes : (body : Body) (place : ℕ) (live : LiveHome) → Goes step (Known (Some live)) homes (part terms body place live homes)
  part_goes body place live = by_count (nat_lt 0 live.home.count) refl
    where
      by_count : (some : Bool) → nat_lt 0 live.home.count ≡ some → Goes step (Known (Some live)) homes
          (if some then move answers.Clash (Known (Some live)) homes else make terms body place (Some live) homes)
      by_count true test = stays refl refl refl
      by_count false test = make_goes body place (Some live) (none_is live.home.count test)

  again_goes : (known : Option LiveHome) → Goes step (Known known) homes (again known homes)
  again_goes known = stays refl refl refl

  either_goes : (live : LiveHome) (same : Bool) (m : Move) → Goes step (Known (Some live)) homes m
      → Goes step (Known (Some live)) homes (if same then m else again (Some live) homes)
  either_goes live true m goes = goes
  either_goes live false m goes = again_goes (Some live)

  refer_goes : (body : Body) (verdict : Verdict) (place : ℕ) (known : Option LiveHome)
      → Goes step (Known known) homes (refer terms body verdict place known homes)
  refer_goes body Trust place None = make_goes body place None refl
  refer_goes body Trust place (Some live) = share_goes live
  refer_goes body Absent place None = make_goes body place None refl
  refer_goes body Absent place (Some live) = again_goes (Some live)
  refer_goes body (Same at its) place None = again_goes None
  refer_goes body (Same at its) place (Some live) = either_goes live (is_its live at its) (share terms live homes) (share_goes live)
  refer_goes body (Differs at its) place None = again_goes None
  refer_goes body (Differs at its) place (Some live) =
      either_goes live (is_its live at its) (part terms body place live homes) (part_goes body place live)

  unrefer_goes : (place birth : ℕ) (known : Option LiveHome) → Goes step (Known known) homes (unrefer place birth known homes)
  unrefer_goes place birth None = stays refl refl refl
  unrefer_goes place birth (Some live) = by_test (counts live place birth) refl
    where
      by_test : (is : Bool) → counts live place birth ≡ is → Goes step (Known (Some live)) homes
          (if is then counted live homes else move answers.Loose (Known (Some live)) homes)
      by_test true test = falls live _ refl
          (some_is live.home.count (first_of (nat_lt 0 live.home.count) (live.home.place == place) (live.home.birth == birth) test))
          refl refl refl refl
      by_test false test = stays refl refl refl

-- what the leader says, where the lane is the leader
abbrev IsLeader : Step → (lane : ℕ) → (next : KeyState) → Type 0
IsLeader step lane next = (homes : ℕ) → Goes step (Led lane) homes (move answers.Done next homes)

lead_goes : (step : Step) (lane : ℕ) (next : KeyState) (state : KeyState) (homes : ℕ) → IsLeader step lane next
    → Goes step state homes (lead lane next state homes)
lead_goes step lane next Idle homes leader = stays refl refl refl
lead_goes step lane next (Known known) homes leader = stays refl refl refl
lead_goes step lane next (Led other) homes leader = by_lane (other == lane) refl
  where
    by_lane : (same : Bool) → (other == lane) ≡ same
        → Goes step (Led other) homes (if same then move answers.Done next homes else stray (Led other) homes)
    by_lane true test = let one : lane ≡ other = grind (arith, nat_tests) in
        subst (λ (l : ℕ). Goes step (Led l) homes (move answers.Done next homes)) one (leader homes)
    by_lane false test = stays refl refl refl

on_known_goes : (step : Step) (go_on : Option LiveHome → ℕ → Move) (state : KeyState) (homes : ℕ)
    → ((known : Option LiveHome) → Goes step (Known known) homes (go_on known homes)) → Goes step state homes (on_known go_on state homes)
on_known_goes step go_on Idle homes goes = stays refl refl refl
on_known_goes step go_on (Led lane) homes goes = stays refl refl refl
on_known_goes step go_on (Known known) homes goes = goes known

claim_goes : (lane key : ℕ) (state : KeyState) (homes : ℕ) → Goes (Claim lane key) state homes (claim lane state homes)
claim_goes lane key Idle homes = leads lane key refl refl refl refl refl
claim_goes lane key (Led other) homes = stays refl refl refl
claim_goes lane key (Known known) homes = stays refl refl refl

-- the table goes in these ways and in no other
pub goes : (terms : Terms) (step : Step) (state : KeyState) (homes : ℕ) → Goes step state homes (move_of terms step state homes)
goes terms (Claim lane key) state homes = claim_goes lane key state homes
goes terms (Loaded lane key home) state homes = lead_goes (Loaded lane key home) lane (Known (on_disk home)) state homes
    (λ (h : ℕ). loads lane key home refl refl refl refl refl)
goes terms (Failed lane key) state homes = lead_goes (Failed lane key) lane Idle state homes
    (λ (h : ℕ). fails lane key refl refl refl refl refl)
goes terms (Ref lane index key verdict place) state homes = on_known_goes (Ref lane index key verdict place)
    (refer terms (Command lane index) verdict place) state homes
    (λ (known : Option LiveHome). refer_goes terms (Ref lane index key verdict place) homes (Command lane index) verdict place known)
goes terms (Unref lane index key place birth) state homes = on_known_goes (Unref lane index key place birth)
    (unrefer place birth) state homes
    (λ (known : Option LiveHome). unrefer_goes terms (Unref lane index key place birth) homes place birth known)
