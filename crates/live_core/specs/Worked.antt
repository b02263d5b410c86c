-- Every row of the table of steps at an example, and two lanes at one key.
use Rattle.std.specs.Prelude.{◌≡◌, ℕ, List, [], ◌∷◌, None, Some}
use Rattle.machine_model.specs.declared.machine.Event.{Event}
use Rattle.live_core.specs.declared.steps.Body.TheVariants.{Disk, Command}
use Rattle.live_core.specs.declared.steps.LiveHome.{LiveHome}
use Rattle.live_core.specs.declared.steps.KeyState.{KeyState}
use Rattle.live_core.specs.declared.steps.KeyState.TheVariants.{Idle, Led, Known}
use Rattle.live_core.specs.declared.steps.Verdict.{Verdict}
use Rattle.live_core.specs.declared.steps.Verdict.TheVariants.{Trust, Absent, Same, Differs}
use Rattle.live_core.specs.declared.steps.Step.{Step}
use Rattle.live_core.specs.declared.steps.Step.TheVariants.{Claim, Loaded, Failed, Ref, Unref}
use Rattle.live_core.specs.declared.steps.Answer.{Answer}
use Rattle.live_core.specs.declared.steps.Answer.TheVariants as answers
use Rattle.live_core.specs.declared.steps.Terms.{Terms}
use Rattle.live_core.specs.Moves.{one_more, move, move_of}
use Rattle.live_core.specs.Cores.{first_core, moved}
use Rattle.live_core.specs.Runs.{core_of, history_of}

-- four keys, two homes, group 7 at moment 1000; without a quota, and with one of two keys
abbrev pub plenty : Terms
plenty = record { keys = 4; homes = 2; quota = None; number = 7; moment = 1000 }

abbrev pub tight : Terms
tight = record { keys = 4; homes = 2; quota = Some 512; number = 7; moment = 1000 }

-- the home of key 1 in the table, with so many references
abbrev pub stored : (count : ℕ) → LiveHome
stored count = record { home = record { place = 40; birth = 3; since = 500; count = count }; body = Disk }

-- the home that command 9 of lane 5 makes, and the stored one taken up by it
abbrev pub made : LiveHome
made = record { home = record { place = 50; birth = 7; since = 1000; count = 1 }; body = Command 5 9 }

abbrev pub taken : LiveHome
taken = record { home = record { place = 40; birth = 3; since = 1000; count = 1 }; body = Disk }

-- the key's home is the stored one
abbrev pub known : (count : ℕ) → KeyState
known count = Known (Some (stored count))

-- command 9 of lane 5 asks for a reference, and would make its home at place 50
abbrev pub want : Verdict → Step
want verdict = Ref 5 9 1 verdict 50

-- lane 5 frees a pointer with this place and birth
abbrev pub give : (place birth : ℕ) → Step
give place birth = Unref 5 9 1 place birth

pub record WorkedSteps : Type 0 where
  -- nobody has asked for the key
  pub claim_idle : move_of plenty (Claim 5 1) Idle 2 ≡ move answers.Lead (Led 5) 2
  -- another lane leads it
  pub claim_led : move_of plenty (Claim 5 1) (Led 3) 2 ≡ move (answers.Held 3) (Led 3) 2
  -- the lane leads it itself
  pub claim_own : move_of plenty (Claim 5 1) (Led 5) 2 ≡ move (answers.Held 5) (Led 5) 2
  -- the key is known to have no home
  pub claim_none : move_of plenty (Claim 5 1) (Known None) 2 ≡ move (answers.Known None) (Known None) 2
  -- its home is known
  pub claim_known : move_of plenty (Claim 5 1) (known 2) 2 ≡ move (answers.Known (Some (stored 2))) (known 2) 2
  -- the leader has found a home
  pub loaded : move_of plenty (Loaded 5 1 (Some (stored 2).home)) (Led 5) 2 ≡ move answers.Done (known 2) 2
  -- the leader has found none
  pub loaded_none : move_of plenty (Loaded 5 1 None) (Led 5) 2 ≡ move answers.Done (Known None) 2
  -- it isn't the leader
  pub loaded_by_other : move_of plenty (Loaded 5 1 None) (Led 3) 2 ≡ move answers.Stray (Led 3) 2
  -- nobody leads the key
  pub loaded_idle : move_of plenty (Loaded 5 1 None) Idle 2 ≡ move answers.Stray Idle 2
  -- the key is known already
  pub loaded_known : move_of plenty (Loaded 5 1 None) (known 2) 2 ≡ move answers.Stray (known 2) 2
  -- the leader couldn't read the table
  pub failed : move_of plenty (Failed 5 1) (Led 5) 2 ≡ move answers.Done Idle 2
  -- it isn't the leader
  pub failed_by_other : move_of plenty (Failed 5 1) (Led 3) 2 ≡ move answers.Stray (Led 3) 2
  -- nobody leads the key
  pub failed_idle : move_of plenty (Failed 5 1) Idle 2 ≡ move answers.Stray Idle 2
  -- the key is known already
  pub failed_known : move_of plenty (Failed 5 1) (Known None) 2 ≡ move answers.Stray (Known None) 2
  -- a first home
  pub trust_none : move_of plenty (want Trust) (Known None) 2 ≡ move (answers.New made.home) (Known (Some made)) 3
  -- a first home, after a look
  pub absent_none : move_of plenty (want Absent) (Known None) 2 ≡ move (answers.New made.home) (Known (Some made)) 3
  -- the quota has no room
  pub trust_none_tight : move_of tight (want Trust) (Known None) 2 ≡ move answers.Quota (Known None) 2
  -- the quota has room for one
  pub trust_none_just : move_of tight (want Trust) (Known None) 1 ≡ move (answers.New made.home) (Known (Some made)) 2
  -- one reference more
  pub trust_live : move_of plenty (want Trust) (known 2) 2 ≡ move (answers.Hit (stored 3).home) (known 3) 2
  -- the quota isn't asked for it
  pub trust_live_tight : move_of tight (want Trust) (known 2) 2 ≡ move (answers.Hit (stored 3).home) (known 3) 2
  -- the bytes were compared
  pub same_live : move_of plenty (want (Same 40 Disk)) (known 2) 2 ≡ move (answers.Hit (stored 3).home) (known 3) 2
  -- with those of a command
  pub same_command : move_of plenty (want (Same 50 (Command 5 9))) (Known (Some made)) 2
      ≡ move (answers.Hit (one_more made.home)) (Known (Some (record made { home = one_more made.home }))) 2
  -- the home has other bytes
  pub differs_live : move_of plenty (want (Differs 40 Disk)) (known 2) 2 ≡ move answers.Clash (known 2) 2
  -- a waiting home is taken up
  pub trust_waiting : move_of plenty (want Trust) (known 0) 2 ≡ move (answers.New taken.home) (Known (Some taken)) 3
  -- after a look too
  pub same_waiting : move_of plenty (want (Same 40 Disk)) (known 0) 2 ≡ move (answers.New taken.home) (Known (Some taken)) 3
  -- a new home takes its place
  pub differs_waiting : move_of plenty (want (Differs 40 Disk)) (known 0) 2 ≡ move (answers.New made.home) (Known (Some made)) 3
  -- the quota has no room
  pub trust_waiting_tight : move_of tight (want Trust) (known 0) 2 ≡ move answers.Quota (known 0) 2
  -- nor for a new home
  pub differs_waiting_tight : move_of tight (want (Differs 40 Disk)) (known 0) 2 ≡ move answers.Quota (known 0) 2
  -- there is a home by now
  pub absent_some : move_of plenty (want Absent) (known 2) 2 ≡ move (answers.Again (Some (stored 2))) (known 2) 2
  -- there is none any more
  pub same_none : move_of plenty (want (Same 40 Disk)) (Known None) 2 ≡ move (answers.Again None) (Known None) 2
  -- nor here
  pub differs_none : move_of plenty (want (Differs 40 Disk)) (Known None) 2 ≡ move (answers.Again None) (Known None) 2
  -- the block that was compared is another
  pub same_other_place : move_of plenty (want (Same 41 Disk)) (known 2) 2 ≡ move (answers.Again (Some (stored 2))) (known 2) 2
  -- its bytes are a command's
  pub same_other_body : move_of plenty (want (Same 40 (Command 5 9))) (known 2) 2 ≡ move (answers.Again (Some (stored 2))) (known 2) 2
  -- its bytes are another command's
  pub same_other_command : move_of plenty (want (Same 50 (Command 5 8))) (Known (Some made)) 2
      ≡ move (answers.Again (Some made)) (Known (Some made)) 2
  -- the block that differs is another
  pub differs_other_place : move_of plenty (want (Differs 41 Disk)) (known 0) 2 ≡ move (answers.Again (Some (stored 0))) (known 0) 2
  -- the key isn't known
  pub ref_idle : move_of plenty (want Trust) Idle 2 ≡ move answers.Stray Idle 2
  -- nor while it is led
  pub ref_led : move_of plenty (want Trust) (Led 5) 2 ≡ move answers.Stray (Led 5) 2
  -- one reference less
  pub unref_counted : move_of plenty (give 40 3) (known 2) 2 ≡ move answers.Counted (known 1) 2
  -- the last one
  pub unref_last : move_of plenty (give 40 3) (known 1) 2 ≡ move answers.Counted (known 0) 1
  -- none counts the home
  pub unref_waiting : move_of plenty (give 40 3) (known 0) 2 ≡ move answers.Loose (known 0) 2
  -- the pointer is at another place
  pub unref_other_place : move_of plenty (give 41 3) (known 2) 2 ≡ move answers.Loose (known 2) 2
  -- or of another group
  pub unref_other_birth : move_of plenty (give 40 4) (known 2) 2 ≡ move answers.Loose (known 2) 2
  -- the key has no home
  pub unref_none : move_of plenty (give 40 3) (Known None) 2 ≡ move answers.Loose (Known None) 2
  -- the key isn't known
  pub unref_idle : move_of plenty (give 40 3) Idle 2 ≡ move answers.Stray Idle 2
  -- nor while it is led
  pub unref_led : move_of plenty (give 40 3) (Led 5) 2 ≡ move answers.Stray (Led 5) 2
  -- the group has no such key
  pub past_the_keys : (moved plenty (first_core plenty) (Claim 5 4)).answer ≡ answers.Stray

abbrev pub event : Step → Answer → Event Step Answer
event step answer = record { step = step; answer = answer }

-- two lanes want key 1: the first loads it, the second waits, and both get a reference; the first gives its own back
abbrev pub two_lanes : List Step
two_lanes =
    Claim 0 1
    ∷ Claim 3 1
    ∷ Loaded 0 1 None
    ∷ Claim 3 1
    ∷ Ref 3 0 1 Absent 50
    ∷ Ref 0 0 1 Absent 51
    ∷ Ref 0 0 1 (Same 50 (Command 3 0)) 51
    ∷ Unref 0 1 1 50 7
    ∷ []

-- what they share
abbrev pub shared : (count : ℕ) → LiveHome
shared count = record { home = record { place = 50; birth = 7; since = 1000; count = count }; body = Command 3 0 }

pub record WorkedLanes : Type 0 where
  pub history : history_of plenty two_lanes
      ≡ event (Claim 0 1) answers.Lead
      ∷ event (Loaded 0 1 None) answers.Done
      ∷ event (Ref 3 0 1 Absent 50) (answers.New (shared 1).home)
      ∷ event (Ref 0 0 1 (Same 50 (Command 3 0)) 51) (answers.Hit (shared 2).home)
      ∷ event (Unref 0 1 1 50 7) answers.Counted
      ∷ []
  pub state : (core_of plenty two_lanes).states 1 ≡ Known (Some (shared 1))
  pub other : (core_of plenty two_lanes).states 0 ≡ Idle
  pub homes : (core_of plenty two_lanes).homes ≡ 3
