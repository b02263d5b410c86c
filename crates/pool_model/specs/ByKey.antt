-- A pool beside its table, key by key: what holds of the homes that the table finds, and of the runs that a group may give out.
use Rattle.std.specs.Prelude.{◌≡◌, ℕ, ◌+◌, ◌≤◌, ⊤, Bool, true, false, List, Option, Some, None}
use Rattle.std.specs.List.{AllByRecursion, list_any}
use Rattle.ddt_entry.specs.Keys.{key_eq}
use Rattle.ddt_entry.specs.declared.key.Key.{Key}
use Rattle.ddt_entry.specs.declared.entry.Home.{Home}
use Rattle.pool_model.specs.Pool.{Pool, Pairwise, IsApart, run_length, tracked_at}
use Rattle.pool_model.specs.Table.{counted, home_of_pointers, IsApartFrom, change_at, found_over}
use Rattle.pool_model.specs.Command.{Opening, Course}
use Rattle.pool_model.specs.Group.{change_of, changes_of}
use Rattle.pool_model.specs.Plain.{Act, write, read, free}

-- each home that is found counts exactly the live pointers, and a waiting home was made by now, and its run lies on the disk behind the
-- ring and is no one else's
pub record MatchesByKey (sectors : ℕ) (pool : Pool) (home_at : Key → Option Home) : Type 0 where
  pub homes : (key : Key) → counted (home_at key) ≡ home_of_pointers (tracked_at pool key)
  pub waiting : (key : Key) (home : Home) → home_at key ≡ Some home → home.count ≡ 0
      → AllByRecursion (IsApartFrom (record { key = key; home = home })) pool.pointers
  pub apart : (key other : Key) (home second : Home) → key_eq key other ≡ false → home_at key ≡ Some home → home.count ≡ 0
      → home_at other ≡ Some second → second.count ≡ 0
      → IsApart home.place (run_length key) second.place (run_length other)
  pub births : (key : Key) (home : Home) → home_at key ≡ Some home → home.count ≡ 0 → home.birth ≤ pool.group
  pub start : (key : Key) (home : Home) → home_at key ≡ Some home → home.count ≡ 0 → 32 ≤ home.place
  pub end : (key : Key) (home : Home) → home_at key ≡ Some home → home.count ≡ 0 → home.place + run_length key ≤ sectors

-- no block lies in the run, a pointer's or a waiting home's, nor does the ring, and it lies on the disk
pub record IsUnnamedByKey (sectors : ℕ) (pool : Pool) (home_at : Key → Option Home) (place length : ℕ) : Type 0 where
  pub start : 32 ≤ place
  pub end : place + length ≤ sectors
  pub no_pointer : AllByRecursion (λ p. IsApart place length p.place (run_length p.key)) pool.pointers
  pub not_waiting : (key : Key) (home : Home) → home_at key ≡ Some home → home.count ≡ 0
      → IsApart place length home.place (run_length key)

-- the runs were unnamed, and no two share a sector
pub record AreFreshByKey (is_unnamed : (place length : ℕ) → Type 0) (given : List (ℕ × ℕ)) : Type 0 where
  pub unnamed : AllByRecursion (λ run. is_unnamed run.0 run.1) given
  pub apart : Pairwise (λ a b. IsApart a.0 a.1 b.0 b.1) given

-- whether the course named the key
abbrev pub is_touched : Key → Course → Bool
is_touched key course = list_any (λ named. key_eq named key) course.touched

-- the list of a course's changes has the change of each key that was named, and no other
pub record ChangesByKey (opening : Opening) (course : Course) : Type 0 where
  pub touched : (key : Key) → is_touched key course ≡ true → change_at key (changes_of opening course) ≡ change_of opening course key
  pub untouched : (key : Key) → is_touched key course ≡ false → change_at key (changes_of opening course) ≡ None

-- the home of a key after the course's changes
abbrev pub home_after : Opening → Course → (before : Option Home) → Key → Option Home
home_after opening course before key = found_over before (change_at key (changes_of opening course))

-- the command is a write
abbrev pub IsWrite : Act → Type 0
IsWrite (write content) = ⊤
IsWrite read = ⊥
IsWrite free = ⊥
