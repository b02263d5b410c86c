-- The table of steps: what a step answers at the state of its key, and what it leaves.
use Rattle.std.specs.Prelude.{ℕ, ◌+◌, ◌-◌, Bool, true, false, ◌&&◌, ◌==◌, nat_lt, Option, Some, None, if◌then◌else◌}
use Rattle.quota_rule.specs.Allows.{allows}
use Rattle.ddt_entry.specs.declared.entry.Home.{Home}
use Rattle.live_core.specs.declared.steps.Body.{Body}
use Rattle.live_core.specs.declared.steps.Body.TheVariants.{Disk, Command}
use Rattle.live_core.specs.declared.steps.LiveHome.{LiveHome}
use Rattle.live_core.specs.declared.steps.KeyState.{KeyState}
use Rattle.live_core.specs.declared.steps.KeyState.TheVariants.{Idle, Led, Known}
use Rattle.live_core.specs.declared.steps.Verdict.{Verdict}
use Rattle.live_core.specs.declared.steps.Verdict.TheVariants.{Trust, Absent, Same, Differs}
use Rattle.live_core.specs.declared.steps.Step.{Step}
use Rattle.live_core.specs.declared.steps.Step.TheVariants.{Claim, Loaded, Failed, Ref, Unref}
use Rattle.live_core.specs.declared.steps.Answer.{Answer}
use Rattle.live_core.specs.declared.steps.Answer.TheVariants as answers
use Rattle.live_core.specs.declared.steps.Terms.{Terms}
use Rattle.live_core.specs.declared.moves.Move.{Move}

abbrev pub move : Answer → KeyState → (homes : ℕ) → Move
move answer state homes = record { answer = answer; state = state; homes = homes }

-- a step without a meaning at this state
abbrev pub stray : KeyState → (homes : ℕ) → Move
stray state homes = move answers.Stray state homes

abbrev pub claim : (lane : ℕ) → KeyState → (homes : ℕ) → Move
claim lane Idle homes = move answers.Lead (Led lane) homes
claim lane (Led other) homes = move (answers.Held other) (Led other) homes
claim lane (Known known) homes = move (answers.Known known) (Known known) homes

-- what the leader alone may say, after which the key is in another state
abbrev pub lead : (lane : ℕ) → (next : KeyState) → KeyState → (homes : ℕ) → Move
lead lane next Idle homes = stray Idle homes
lead lane next (Led other) homes = if other == lane then move answers.Done next homes else stray (Led other) homes
lead lane next (Known known) homes = stray (Known known) homes

-- a home as the table has it
abbrev pub on_disk : Option Home → Option LiveHome
on_disk None = None
on_disk (Some home) = Some (record { home = home; body = Disk })

-- a home at this place, of this group, with one reference
abbrev pub new_home : Terms → (place : ℕ) → Home
new_home terms place = record { place = place; birth = terms.number; since = terms.moment; count = 1 }

-- a new home, where the quota allows it
abbrev pub make : Terms → Body → (place : ℕ) → Option LiveHome → (homes : ℕ) → Move
make terms body place known homes =
    if allows homes terms.quota then move (answers.New (new_home terms place))
    (Known (Some (record { home = new_home terms place; body = body }))) (homes + 1)
    else move answers.Quota (Known known) homes

-- the home with one reference more
abbrev pub one_more : Home → Home
one_more home = record home { count = home.count + 1 }

-- the home with its first reference since nothing counted it
abbrev pub taken_up : Terms → Home → Home
taken_up terms home = record home { since = terms.moment; count = 1 }

-- a reference more to a home that has some
abbrev pub hit : LiveHome → (homes : ℕ) → Move
hit live homes = move (answers.Hit (one_more live.home)) (Known (Some (record live { home = one_more live.home }))) homes

-- the first reference to a home that has none, where the quota allows it
abbrev pub take_up : Terms → LiveHome → (homes : ℕ) → Move
take_up terms live homes =
    if allows homes terms.quota then move (answers.New (taken_up terms live.home))
    (Known (Some (record live { home = taken_up terms live.home }))) (homes + 1)
    else move answers.Quota (Known (Some live)) homes

-- a reference to the home that there is
abbrev pub share : Terms → LiveHome → (homes : ℕ) → Move
share terms live homes = if nat_lt 0 live.home.count then hit live homes else take_up terms live homes

-- a reference beside a home with other bytes
abbrev pub part : Terms → Body → (place : ℕ) → LiveHome → (homes : ℕ) → Move
part terms body place live homes =
    if nat_lt 0 live.home.count then move answers.Clash (Known (Some live)) homes else make terms body place (Some live) homes

-- the home isn't the one that was compared
abbrev pub again : Option LiveHome → (homes : ℕ) → Move
again known homes = move (answers.Again known) (Known known) homes

abbrev pub body_eq : Body → Body → Bool
body_eq Disk Disk = true
body_eq Disk (Command lane index) = false
body_eq (Command lane index) Disk = false
body_eq (Command lane index) (Command other at) = lane == other && index == at

-- the block that was compared is this home's
abbrev pub is_its : LiveHome → (place : ℕ) → Body → Bool
is_its live place body = live.home.place == place && body_eq live.body body

-- what a write asks for, at what is known of its key; `body` is the write itself
abbrev pub refer : Terms → Body → Verdict → (place : ℕ) → Option LiveHome → (homes : ℕ) → Move
refer terms body Trust place None homes = make terms body place None homes
refer terms body Trust place (Some live) homes = share terms live homes
refer terms body Absent place None homes = make terms body place None homes
refer terms body Absent place (Some live) homes = again (Some live) homes
refer terms body (Same at its) place None homes = again None homes
refer terms body (Same at its) place (Some live) homes = if is_its live at its then share terms live homes else again (Some live) homes
refer terms body (Differs at its) place None homes = again None homes
refer terms body (Differs at its) place (Some live) homes =
    if is_its live at its then part terms body place live homes else again (Some live) homes

-- the home counts a pointer with this place and birth
abbrev pub counts : LiveHome → (place birth : ℕ) → Bool
counts live place birth = nat_lt 0 live.home.count && live.home.place == place && live.home.birth == birth

-- the home with one reference less
abbrev pub one_less : Home → Home
one_less home = record home { count = home.count - 1 }

-- a reference less to a home that has some; with its last one it counts among the homes no more
abbrev pub counted : LiveHome → (homes : ℕ) → Move
counted live homes =
    move answers.Counted (Known (Some (record live { home = one_less live.home }))) (if live.home.count == 1 then homes - 1 else homes)

-- what a free gives up, at what is known of its pointer's key
abbrev pub unrefer : (place birth : ℕ) → Option LiveHome → (homes : ℕ) → Move
unrefer place birth None homes = move answers.Loose (Known None) homes
unrefer place birth (Some live) homes =
    if counts live place birth then counted live homes else move answers.Loose (Known (Some live)) homes

-- what a known key alone is asked
abbrev pub on_known : (Option LiveHome → ℕ → Move) → KeyState → (homes : ℕ) → Move
on_known go_on Idle homes = stray Idle homes
on_known go_on (Led lane) homes = stray (Led lane) homes
on_known go_on (Known known) homes = go_on known homes

-- the whole table
abbrev pub move_of : Terms → Step → KeyState → (homes : ℕ) → Move
move_of terms (Claim lane key) state homes = claim lane state homes
move_of terms (Loaded lane key home) state homes = lead lane (Known (on_disk home)) state homes
move_of terms (Failed lane key) state homes = lead lane Idle state homes
move_of terms (Ref lane index key verdict place) state homes = on_known (refer terms (Command lane index) verdict place) state homes
move_of terms (Unref lane index key place birth) state homes = on_known (unrefer place birth) state homes

abbrev pub lane_in : Step → ℕ
lane_in (Claim lane key) = lane
lane_in (Loaded lane key home) = lane
lane_in (Failed lane key) = lane
lane_in (Ref lane index key verdict place) = lane
lane_in (Unref lane index key place birth) = lane

abbrev pub key_in : Step → ℕ
key_in (Claim lane key) = key
key_in (Loaded lane key home) = key
key_in (Failed lane key) = key
key_in (Ref lane index key verdict place) = key
key_in (Unref lane index key place birth) = key

-- a step is kept unless it changes nothing: what a claim was told, and a write that has to compare again
abbrev pub is_kept : Answer → Bool
is_kept (answers.Held lane) = false
is_kept (answers.Known known) = false
is_kept (answers.Again known) = false
is_kept answers.Lead = true
is_kept answers.Done = true
is_kept (answers.New home) = true
is_kept (answers.Hit home) = true
is_kept answers.Quota = true
is_kept answers.Clash = true
is_kept answers.Counted = true
is_kept answers.Loose = true
is_kept answers.Stray = true

-- the references that a home has
abbrev pub references : Option LiveHome → ℕ
references None = 0
references (Some live) = live.home.count

-- the references that are known of a key
abbrev pub count_in : KeyState → ℕ
count_in Idle = 0
count_in (Led lane) = 0
count_in (Known known) = references known
