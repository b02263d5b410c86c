-- The group of the tests: what it tells, and which steps may be taken in it.
use Rattle.std.specs.Prelude.{◌≡◌, ℕ, ◌<◌, List, [], ◌∷◌, replicate, Option, None, Some}
use Rattle.ddt_entry.specs.declared.key.Key.{Key}
use Rattle.live_core.specs.declared.steps.Step.{Step}
use Rattle.live_core.specs.declared.steps.Step.TheVariants.{Claim, Loaded, Failed, Ref, Unref}
use Rattle.live_core.specs.Bases.{Told, Base, IsNoneOrHome}

-- command k of each of sixteen lanes is a write of key k
abbrev pub writes : List (List (Option ℕ))
writes = replicate 16 (Some 0 ∷ Some 1 ∷ Some 2 ∷ Some 3 ∷ Some 4 ∷ Some 5 ∷ Some 6 ∷ Some 7 ∷ [])

-- the disk tells no home
abbrev pub told_of : List Key → Told
told_of keys = record { keys = keys; homes = None; sectors = 1000; writes = writes }

-- the base of group 7
pub record IsOfGroup (base : Base) : Type 0 where
  pub homes : base.told.homes ≡ None
  pub sectors : base.told.sectors ≡ 1000
  pub writes_are : base.told.writes ≡ writes
  pub number : base.terms.number ≡ 7

abbrev pub IsAllowed : Step → Type 0
IsAllowed (Claim lane key) = Unit {0}
IsAllowed (Loaded lane key home) = IsNoneOrHome 1000 7 home
IsAllowed (Failed lane key) = Unit {0}
IsAllowed (Ref lane index key verdict place) = (lane < 16) × (index ≡ key) × (key < 8)
IsAllowed (Unref lane index key place birth) = Unit {0}
