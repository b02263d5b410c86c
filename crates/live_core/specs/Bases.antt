-- What a group opens with, and which steps may be taken then.
use Rattle.std.specs.Prelude.{◌≡◌, ℕ, ◌<◌, ◌≤◌, ◌^◌, List, [], slice_get, slice_index_or, Option, None, Some}
use Rattle.ddt_entry.specs.declared.key.Key.{Key}
use Rattle.ddt_entry.specs.declared.entry.Home.{Home}
use Rattle.live_core.specs.declared.steps.Step.{Step}
use Rattle.live_core.specs.declared.steps.Step.TheVariants.{Claim, Loaded, Failed, Ref, Unref}
use Rattle.live_core.specs.declared.steps.Terms.{Terms}

-- what no core keeps: who opens it tells it
pub record Told : Type 0 where
  -- the keys of the group
  pub keys : List Key
  -- the home of each of them in the table as the group finds it; none is told where the disk doesn't tell its contents
  pub homes : Option (List (Option Home))
  -- how many sectors the pool has
  pub sectors : ℕ
  -- of each lane, for each of its commands: the number of its key, where it is a write that uses the table
  pub writes : List (List (Option ℕ))

-- all that answers rest on beside the history
pub record Base : Type 0 where
  pub told : Told
  pub terms : Terms

-- a home as a table may have it before a group
pub record IsHome (sectors number : ℕ) (home : Home) : Type 0 where
  pub place : (32 ≤ home.place) × (home.place < sectors)
  pub birth : (1 ≤ home.birth) × (home.birth < number)
  pub since : home.since < 2 ^ 40
  pub count : home.count ≤ 1_048_576

abbrev pub IsNoneOrHome : (sectors number : ℕ) → Option Home → Type 0
IsNoneOrHome sectors number None = Unit {0}
IsNoneOrHome sectors number (Some home) = IsHome sectors number home

-- where homes are told, this is the key's
abbrev pub IsToldHome : Option (List (Option Home)) → (key : ℕ) → Option Home → Type 0
IsToldHome None key home = Unit {0}
IsToldHome (Some homes) key home = slice_get homes key ≡ Some home

-- the number of a command's key, where it is a write that uses the table
abbrev pub write_at : Base → (lane index : ℕ) → Option ℕ
write_at base lane index = slice_index_or (slice_index_or base.told.writes lane []) index None

-- the home that a leader hands in is the key's
abbrev pub IsLoad : Base → Step → Type 0
IsLoad base (Claim lane key) = Unit {0}
IsLoad base (Loaded lane key home) = IsToldHome base.told.homes key home × IsNoneOrHome base.told.sectors base.terms.number home
IsLoad base (Failed lane key) = Unit {0}
IsLoad base (Ref lane index key verdict place) = Unit {0}
IsLoad base (Unref lane index key place birth) = Unit {0}

-- the reference that a write asks for is one to its own key
abbrev pub IsWrite : Base → Step → Type 0
IsWrite base (Claim lane key) = Unit {0}
IsWrite base (Loaded lane key home) = Unit {0}
IsWrite base (Failed lane key) = Unit {0}
IsWrite base (Ref lane index key verdict place) = write_at base lane index ≡ Some key
IsWrite base (Unref lane index key place birth) = Unit {0}

-- whether a step may be taken: all may but a wrong home of a leader, and a reference to another write's key
abbrev pub Fits : Base → Step → Type 0
Fits base step = IsLoad base step × IsWrite base step
