-- Which sectors of a pool are used: a note for each sector, in the order of their numbers.
use Rattle.std.specs.Prelude.{◌≡◌, ℕ, ◌+◌, ◌<◌, nat_lt, Bool, true, not, List, [], ◌∷◌, length, map, take, slice_set, Option, Some, None, if◌then◌else◌}
use Rattle.std.specs.List.{count_by, range_with_len}
use Rattle.reserved_list.specs.Listed.{Listed}

-- the sectors that aren't used, in rising order, where the first note is that of this sector
abbrev pub free_from : (sector : ℕ) → (used : List Bool) → List ℕ
free_from sector [] = []
free_from sector (is_used ∷ used) = if is_used then free_from (sector + 1) used else sector ∷ free_from (sector + 1) used

-- the sectors of a pool that aren't used, in rising order
abbrev pub free_sectors : List Bool → List ℕ
free_sectors used = free_from 0 used

-- places were found: the first that are free, as many as were wanted
pub record AreFirstFree (used : List Bool) (wanted : ℕ) (places : List ℕ) : Type 0 where
  pub first : places ≡ take wanted (free_sectors used)
  pub count : length places ≡ wanted

-- what a search for so many places answers: the first free ones, or nothing where there are fewer
abbrev pub FindsFree : List Bool → (wanted : ℕ) → Option (Listed ℕ) → Type 0
FindsFree used wanted None = count_by not used < wanted
FindsFree used wanted (Some places) = AreFirstFree used wanted places.items

-- ---- Which sectors are used from now on

-- the sectors with these used too; one past the end changes nothing
abbrev pub marked : List Bool → (sectors : List ℕ) → List Bool
marked used [] = used
marked used (sector ∷ sectors) = marked (slice_set used sector true) sectors

-- a pool of which nothing is used but the ring's sectors, the first 32
abbrev pub ring_used : (sectors : ℕ) → List Bool
ring_used sectors = map (λ sector. nat_lt sector 32) (range_with_len 0 sectors)
