-- The home that each key has, as a function: by a group's changes, what a sync may make of it, and when it matches a pool.
use Rattle.std.specs.Prelude.{◌≡◌, ◌⊎◌, Bool, false, List, Option, Some, None}
use Rattle.std.specs.List.{AllByRecursion, list_any}
use Rattle.ddt_entry.specs.Keys.{key_eq}
use Rattle.ddt_entry.specs.Changes.{key_in}
use Rattle.ddt_entry.specs.declared.key.Key.{Key}
use Rattle.ddt_entry.specs.declared.entry.Home.{Home}
use Rattle.ddt_entry.specs.declared.entry.Change.{Change}
use Rattle.pool_model.specs.Pool.{Pool, IsApart, run_length, tracked_at}
use Rattle.pool_model.specs.Table.{TableState, found, found_over, change_at, counted, home_of_pointers, IsApartFrom}

-- the home of a key once a group's changes are laid over the table
abbrev pub found_with : List Change → TableState → Key → Option Home
found_with changes table key = found_over (found table key) (change_at key changes)

-- a home stays what it was, or it was one that no pointer is counted at, and is gone
abbrev pub StaysOrGoes : (before now : Option Home) → Type 0
StaysOrGoes before now = (now ≡ before) ⊎ ((home : Home) × (before ≡ Some home) × (home.count ≡ 0) × (now ≡ None))

-- the homes of keys count exactly the live pointers, and a waiting home's place is no one else's
pub record HomesMatch (pool : Pool) (home_at : Key → Option Home) : Type 0 where
  pub homes : (key : Key) → counted (home_at key) ≡ home_of_pointers (tracked_at pool key)
  pub waiting : (key : Key) (home : Home) → home_at key ≡ Some home → home.count ≡ 0
      → AllByRecursion (IsApartFrom (record { key = key; home = home })) pool.pointers
  pub apart : (key other : Key) (home second : Home) → key_eq key other ≡ false → home_at key ≡ Some home → home.count ≡ 0
      → home_at other ≡ Some second → second.count ≡ 0
      → IsApart home.place (run_length key) second.place (run_length other)

-- whether a key is one of these
abbrev pub is_among : Key → List Key → Bool
is_among key keys = list_any (λ k. key_eq k key) keys

-- each change that a key is given is of that key
abbrev pub GivesOwnChanges : (Key → Option Change) → Type 0
GivesOwnChanges change_of = (key : Key) (change : Change) → change_of key ≡ Some change → key_in change ≡ key
