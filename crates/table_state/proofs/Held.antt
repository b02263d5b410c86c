-- What an image holds: by the pool in memory over it, in an image that is as before where it counts, and one thing alone.
use Rattle.std.proofs.Common.{◌≡◌, ℕ, List, [], ◌∷◌, length, map, Some, refl, sym, ap, subst, ◌∙◌}
use Rattle.std.specs.Prelude.{take}
use Rattle.std.specs.List.{AllByRecursion}
use Rattle.ddt_entry.specs.declared.key.Key.{Key}
use Rattle.ddt_entry.specs.declared.entry.Home.{Home}
use Rattle.disk_model.specs.Images.{Image, sector_at}
use Rattle.uber_ring.specs.Ring.{newest}
use Rattle.uber_ring.specs.declared.seal.Seal.{Seal}
use Rattle.pool_model.specs.Pool.{Pool, Pointer}
use Rattle.pool_model.specs.Table.{TableState, found}
use Rattle.pool_model.specs.Group.{Standing}
use Rattle.table_state.specs.Flat.{Flat, SameIn, image_version, table_in, pointer_of, logs_in}
use Rattle.table_state.specs.Pools.{Held, IsHeld}
use Rattle.table_state.specs.Holding.{Holds}
use Rattle.table_state.specs.Over.{StandsOver}
use Rattle.slot_table.specs.declared.slot.SlotRecord.{SlotRecord}
use Rattle.table_state.proofs.FlatLaws.{one_seal, one_keeping, one_state}
use Rattle.table_state.proofs.Kept.{state_kept, seal_kept, flat_kept}

-- ---- Over an image

-- an image holds what stands over it
pub holds_over : (image : Image) (held : Held) (s : Standing) → StandsOver image held s → Holds held.tag image s
holds_over image held s over = record {
  state = over.is_held.stands;
  sectors = sym over.is_held.sectors_are ∙ over.sectors;
  logs = sym over.is_held.logs_are ∙ over.logs;
  pages = sym over.is_held.pages_are ∙ over.pages;
  waiting = over.waiting;
}

-- the standing that a pool in memory is over an image, with the blocks that the image has
abbrev pub standing_over : Image → Held → Pool → TableState → Standing
standing_over image held pool table =
    record { pool = pool; table = table; logs = held.logs; blocks = sector_at image; sectors = held.sectors; pages = held.pages }

-- a pool in memory that is held stands so
pub stands_as_held : (image : Image) (held : Held) (pool : Pool) (table : TableState) → IsHeld image held pool table
    → StandsOver image held (standing_over image held pool table)
stands_as_held image held pool table is =
    record { is_held = is; logs = refl; sectors = refl; pages = refl; waiting = λ key home there none. refl }

-- ---- One thing alone

-- what an image holds is what a pool in memory over it is
pub over_held : (image : Image) (held : Held) (pool : Pool) (table : TableState) (s : Standing) → IsHeld image held pool table
    → Holds held.tag image s → StandsOver image held s
over_held image held pool table s is holds =
    let same = one_state held.tag image pool s.pool table s.table is.stands holds.state in
    record {
      is_held = subst (λ (t : TableState). IsHeld image held s.pool t) same.1 (subst (λ (p : Pool). IsHeld image held p table) same.0 is);
      sectors =
          is.sectors_are ∙ ap (λ (seal : Seal). seal.sectors) (one_seal held.tag image pool s.pool table s.table is.stands holds.state) ∙
          holds.sectors;
      logs =
          is.logs_are ∙ ap logs_in (one_keeping held.tag image pool s.pool table s.table is.stands holds.state) ∙ holds.logs;
      pages =
          is.pages_are ∙ ap (λ (flat : Flat). flat.named) (one_keeping held.tag image pool s.pool table s.table is.stands holds.state) ∙
          holds.pages;
      waiting = holds.waiting;
    }

-- ---- As before

-- two images hold the same at the place of each home that waits
abbrev pub SameWaiting : (image c : Image) → TableState → Type 0
SameWaiting image c table =
    (key : Key) (home : Home) → found table key ≡ Some home → home.count ≡ 0 → sector_at c home.place ≡ sector_at image home.place

-- two images hold the same at the place of each pointer
abbrev pub SamePointers : (image c : Image) → Pool → Type 0
SamePointers image c pool = AllByRecursion (λ p. sector_at c p.place ≡ sector_at image p.place) pool.pointers

slots_same : (image c : Image) (table : TableState) (slots : List SlotRecord)
    → AllByRecursion (λ (p : Pointer). sector_at c p.place ≡ sector_at image p.place) (map (pointer_of image table) slots)
    → AllByRecursion (λ slot. sector_at c slot.pointer.place ≡ sector_at image slot.pointer.place) slots
slots_same image c table [] same = tt
slots_same image c table (slot ∷ slots) same = (same.0, slots_same image c table slots same.1)

-- an image with the same newest seal, and the same pages and blocks, holds the same
pub holds_kept : (tag : ℕ) (image c : Image) (s : Standing) → Holds tag image s → length c ≡ length image
    → newest image_version c ≡ newest image_version image
    → SameIn image c s.pages → SamePointers image c s.pool → SameWaiting image c s.table → Holds tag c s
holds_kept tag image c s holds count seals pages pointers waits =
    let in_chains : SameIn image c holds.state.flat.named = subst (SameIn image c) (sym holds.pages) pages in
    let in_slots : AllByRecursion (λ slot. sector_at c slot.pointer.place ≡ sector_at image slot.pointer.place) holds.state.flat.slots =
    slots_same image c (table_in holds.state.seal holds.state.flat) holds.state.flat.slots
    (subst (SamePointers image c) holds.state.pool_is pointers)
    in
    record {
      state = state_kept image c count tag s.pool s.table holds.state seals in_chains in_slots;
      sectors =
          ap (λ (seal : Seal). seal.sectors) (seal_kept image c count tag s.pool s.table holds.state seals in_chains in_slots) ∙
          holds.sectors;
      logs = ap logs_in (flat_kept image c count tag s.pool s.table holds.state seals in_chains in_slots) ∙ holds.logs;
      pages =
          ap (λ (flat : Flat). flat.named) (flat_kept image c count tag s.pool s.table holds.state seals in_chains in_slots)
          ∙ holds.pages;
      waiting = λ key home there none. holds.waiting key home there none ∙ ap (take key.len) (sym (waits key home there none));
    }
