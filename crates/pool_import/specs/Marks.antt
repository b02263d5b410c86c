-- What the rules of the whole ask of a slot: the key, the place, and whether the table counts its pointer.
use Rattle.std.specs.Prelude.{ℕ, ◌+◌, ◌-◌, Bool, true, false, not, ◌&&◌, ◌||◌, ◌==◌, List, [], ◌∷◌, map, length, sum_by, count_by, slice_get, slice_index, slice_index_or, slice_set, Option, Some, None, if◌then◌else◌}
use Rattle.ddt_entry.specs.Keys.{key_eq}
use Rattle.ddt_entry.specs.declared.key.Key.{Key}
use Rattle.ddt_entry.specs.declared.entry.Entry.{Entry}
use Rattle.uber_ring.specs.declared.seal.Seal.{Seal}
use Rattle.pool_model.specs.Pool.{Pointer, is_tracked}
use Rattle.pool_model.specs.Table.{TableState, entry_at, found}
use Rattle.table_state.specs.Flat.{mark_of}
use Rattle.slot_table.specs.declared.slot.SlotRecord.{SlotRecord}
use Rattle.pool_import.specs.declared.marks.Spot.{Spot}

-- what a slot's pointer is to the table
abbrev pub spot_of : TableState → SlotRecord → Spot
spot_of table slot = record {
  key = slot.pointer.key;
  place = slot.pointer.place;
  tracked = is_tracked (mark_of slot.pointer.kind (found table slot.pointer.key) slot.pointer.place slot.pointer.birth);
}

-- the same by the homes that the table finds
abbrev pub spot_among : List Entry → SlotRecord → Spot
spot_among entries slot = record {
  key = slot.pointer.key;
  place = slot.pointer.place;
  tracked = is_tracked (mark_of slot.pointer.kind (entry_at slot.pointer.key entries) slot.pointer.place slot.pointer.birth);
}

-- the same of a pointer of a pool
abbrev pub spot_in : Pointer → Spot
spot_in pointer = record { key = pointer.key; place = pointer.place; tracked = is_tracked pointer.mark }

-- ---- Counts

-- whether the table counts it under a key
abbrev pub counts_for : Key → Spot → Bool
counts_for key spot = spot.tracked && key_eq spot.key key

-- whether a seal's sums are right, for these homes and so many pages
abbrev pub sums_agree : Seal → List Entry → (pages : ℕ) → Bool
sums_agree seal homes
    pages = (seal.homes == length homes) && (seal.counts == sum_by (λ entry. entry.home.count) homes) && (seal.pages == pages)

-- whether a home's count is the number of pointers that are counted under its key
abbrev pub is_counted : List Spot → Entry → Bool
is_counted spots entry = count_by (counts_for entry.key) spots == entry.home.count

-- ---- Places

-- whether the table counts both under one key
abbrev pub are_shared : Spot → Spot → Bool
are_shared a b = a.tracked && b.tracked && key_eq a.key b.key

-- whether they lie apart, unless they share a home
abbrev pub go_apart : Spot → Spot → Bool
go_apart a b = are_shared a b || not (a.place == b.place)

abbrev pub shares_with : Option Spot → Spot → Bool
shares_with None spot = false
shares_with (Some owner) spot = are_shared owner spot

-- whether each that follows shares its place with the first one there, or is the first one; a sector's owner is the number of that one, counted from 1, and 0 where nothing lies yet
abbrev pub are_owned : (all : List Spot) → (at : ℕ) → (owners : List ℕ) → List Spot → Bool
are_owned all at owners [] = true
are_owned all at owners (spot ∷ spots) =
    if slice_index owners spot.place == 0
    then are_owned all (at + 1) (slice_set owners spot.place (at + 1)) spots
    else shares_with (slice_get all (slice_index owners spot.place - 1)) spot && are_owned all (at + 1) owners spots

-- the sectors with these places used too, where each place is free until then
abbrev pub taken : List Bool → List ℕ → Option (List Bool)
taken used [] = Some used
taken used (place ∷ places) = if slice_index_or used place false then None else taken (slice_set used place true) places

-- ---- The sectors that a pool uses

abbrev pub places_of : List Spot → List ℕ
places_of spots = map (λ spot. spot.place) spots

abbrev pub places_in : List Entry → List ℕ
places_in entries = map (λ entry. entry.home.place) entries

-- whether no page lies at a slot's place
abbrev pub is_clear : List Bool → Spot → Bool
is_clear used spot = not (slice_index_or used spot.place false)
