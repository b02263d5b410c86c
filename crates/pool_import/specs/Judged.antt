-- The tests of the whole of an image, as one answer: the sectors that are used, or nothing where a rule is broken.
use Rattle.std.specs.Prelude.{ℕ, Bool, ◌&&◌, List, length, map, replicate, Option, None, if◌then◌else◌}
use Rattle.std.specs.List.{list_all}
use Rattle.ddt_entry.specs.declared.entry.Entry.{Entry}
use Rattle.grant_book.specs.Sectors.{marked, ring_used}
use Rattle.uber_ring.specs.declared.seal.Seal.{Seal}
use Rattle.pool_model.specs.Table.{TableState, waiting_in, counted_homes}
use Rattle.table_state.specs.Flat.{Flat}
use Rattle.pool_import.specs.Marks.{spot_of, sums_agree, is_counted, are_owned, taken, places_of, places_in, is_clear}
use Rattle.pool_import.specs.declared.marks.Spot.{Spot}

-- whether the seal's sums and the homes' counts are right
abbrev pub counts_hold : Seal → (homes : List Entry) → List Spot → (pages : ℕ) → Bool
counts_hold seal homes spots pages = sums_agree seal homes pages && list_all (is_counted spots) homes

-- the sectors of the ring and the pages
abbrev pub pages_used : (sectors : ℕ) → (named : List ℕ) → List Bool
pages_used sectors named = marked (ring_used sectors) named

-- the sectors that are used, where no page, no two blocks and no home that waits share one
abbrev pub sectors_taken : (sectors : ℕ) → (named : List ℕ) → List Spot → (waiting : List Entry) → Option (List Bool)
sectors_taken sectors named spots waiting =
    if list_all (is_clear (pages_used sectors named)) spots && are_owned spots 0 (replicate sectors 0) spots
    then taken (marked (pages_used sectors named) (places_of spots)) (places_in waiting)
    else None

abbrev pub judged : Seal → Flat → TableState → Option (List Bool)
judged seal flat table =
    if counts_hold seal (counted_homes table) (map (spot_of table) flat.slots) (length flat.named)
    then sectors_taken seal.sectors flat.named (map (spot_of table) flat.slots) (waiting_in table)
    else None
