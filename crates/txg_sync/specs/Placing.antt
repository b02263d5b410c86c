-- Which sectors a pool uses after a group, and where the group's chains may go: to sectors that nothing uses, not even a block of the group.
use Rattle.std.specs.Prelude.{◌≡◌, ℕ, ◌<◌, Bool, not, true, false, ◌==◌, List, [], ◌∷◌, length, map, take, drop, slice_index_or, count_by, Option}
use Rattle.std.specs.List.{AllByRecursion, list_any}
use Rattle.grant_book.specs.Sectors.{marked}
use Rattle.page_tree.specs.ChainWrites.{pages_for, AreOpen}
use Rattle.pool_model.specs.declared.commands.Mode.{Mode}
use Rattle.pool_model.specs.Mirrors.{Stored}
use Rattle.pool_model.specs.Space.{used_sectors}
use Rattle.pool_model.specs.Table.{TableState}
use Rattle.table_state.specs.Pools.{pool_after}
use Rattle.table_state.specs.Sealed.{ChainPart, places_in}
use Rattle.slot_table.specs.declared.slot.SlotRecord.{SlotRecord}
use Rattle.table_state.specs.Closing.{block_places, pages_of}

-- these are the sectors that a pool with these pages, slots and table uses, whatever its settings
abbrev pub AreUsed : (sectors : ℕ) → (pages : List ℕ) → List SlotRecord → TableState → List Bool → Type 0
AreUsed sectors pages slots table used =
    (modes : List Mode) → (quota : Option ℕ) → (group : ℕ)
    → used ≡ used_sectors sectors pages (pool_after [] [] slots table modes quota group) table

-- chains of these records, each page at a place of its own that isn't used, not even by one of these blocks
pub record ArePlaced (used : List Bool) (contents : List Stored) (lists : List (List (List ℕ))) (parts : List ChainPart) : Type 0 where
  pub spelled : map (λ part. part.records) parts ≡ lists
  pub pages : AllByRecursion (λ part. length part.places ≡ pages_for (length part.records)) parts
  pub places_open : AreOpen (length used) [] (places_in parts)
  pub unused : AllByRecursion (λ place. slice_index_or used place true ≡ false) (places_in parts)
  pub no_block : AllByRecursion (λ place. list_any (λ stored. stored.place == place) contents ≡ false) (places_in parts)

-- fewer sectors are free beside these blocks than these chains take
abbrev pub LacksRoom : List Bool → (contents : List Stored) → (lists : List (List (List ℕ))) → Type 0
LacksRoom used contents lists = count_by not (marked used (block_places contents)) < pages_of lists

-- chains of these records, to whose pages these places go one after another
abbrev pub parts_of : (lists : List (List (List ℕ))) → (places : List ℕ) → List ChainPart
parts_of [] places = []
parts_of (records ∷ lists) places =
    record { places = take (pages_for (length records)) places; records = records } ∷ parts_of lists
    (drop (pages_for (length records)) places)
