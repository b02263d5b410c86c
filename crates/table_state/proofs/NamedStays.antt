-- Where each sector that a pool in memory names is as before, behind the newest seal, an image holds what it held.
use Rattle.std.proofs.Common.{◌≡◌, ℕ, ◌≤◌, true, length, sym, subst}
use Rattle.std.specs.Prelude.{slice_index_or}
use Rattle.std.specs.List.{AllByRecursion}
use Rattle.ddt_entry.specs.Spelling.{IsKeyLength}
use Rattle.ddt_entry.specs.declared.entry.Entry.{Entry}
use Rattle.disk_model.specs.Images.{Image, sector_at}
use Rattle.uber_ring.specs.Ring.{newest}
use Rattle.pool_model.specs.Group.{Standing}
use Rattle.pool_model.specs.Pool.{Pool, Pointer, LiesWithin, run_length}
use Rattle.pool_model.specs.Table.{TableState, waiting_in, IsTable}
use Rattle.table_state.specs.Flat.{StandsFor, SameIn, IsWithin, IsChangeWithin, image_version, table_in}
use Rattle.table_state.specs.Holding.{Holds}
use Rattle.table_state.specs.Over.{StandsOver}
use Rattle.table_state.specs.Pools.{Held}
use Rattle.table_state.specs.Sound.{IsSound}
use Rattle.slot_table.specs.declared.slot.SlotRecord.{SlotRecord}
use Rattle.table_state.proofs.Held.{SamePointers, SameWaiting, holds_over, holds_kept}
use Rattle.table_state.proofs.Kept.{pages_behind}
use Rattle.pool_model.proofs.Lists.{all_from_both}
use Rattle.table_state.proofs.UsedLaws.{all_waiting, pointer_runs, slot_lengths, waiting_runs}
use Rattle.table_state.proofs.UsedPlaces.{pages_used, pointers_used, waiting_used}
use Rattle.pool_model.proofs.Waiting.{waiting_has}

module _ (image : Image) (held : Held) (s : Standing) (sound : IsSound held) (over : StandsOver image held s) where
  abbrev state : StandsFor held.tag image s.pool s.table
  state = over.is_held.stands

  abbrev Used : ℕ → Type 0
  Used at = slice_index_or held.used at true ≡ true

  -- what stands has a sorted table
  pub sorted_over : IsTable s.table
  sorted_over = subst IsTable over.is_held.table_is sound.sorted

  pages_after_ring : AllByRecursion (λ at. 32 ≤ at) held.pages
  pages_after_ring =
      subst (AllByRecursion (λ at. 32 ≤ at)) (sym over.is_held.pages_are) (pages_behind image state.seal state.flat state.read)

  slots_long : AllByRecursion (λ slot. IsKeyLength slot.pointer.key.len) state.flat.slots
  slots_long =
      subst (AllByRecursion (λ (slot : SlotRecord). IsKeyLength slot.pointer.key.len)) over.is_held.slots_are
      (slot_lengths held.sectors held.group held.slots sound.slots_within)

  one_each : AllByRecursion (λ p. run_length p.key ≡ 1) s.pool.pointers
  one_each =
      subst (λ (pool : Pool). AllByRecursion (λ (p : Pointer). run_length p.key ≡ 1) pool.pointers) (sym state.pool_is)
      (pointer_runs image (table_in state.seal state.flat) state.flat.slots slots_long)

  one_each_waiting : AllByRecursion (λ entry. run_length entry.key ≡ 1) (waiting_in s.table)
  one_each_waiting =
      subst (λ (t : TableState). AllByRecursion (λ (e : Entry). run_length e.key ≡ 1) (waiting_in t)) over.is_held.table_is
      (waiting_runs held.table sound.lengths.zap sound.lengths.flush sound.lengths.active)

  waiting_after_ring : AllByRecursion (IsWithin held.sectors held.group) (waiting_in s.table)
  waiting_after_ring =
      subst (λ (t : TableState). AllByRecursion (IsWithin held.sectors held.group) (waiting_in t)) over.is_held.table_is
      (all_waiting (IsWithin held.sectors held.group) (IsChangeWithin held.sectors held.group) (λ entry within. within) held.table
      sound.within.zap sound.within.flush sound.within.active)

  module _ (c : Image) (stays : (at : ℕ) → 32 ≤ at → slice_index_or held.used at true ≡ true → sector_at c at ≡ sector_at image at) where
    pages_stay : SameIn image c s.pages
    pages_stay =
        subst (SameIn image c) over.pages
        (all_from_both (λ at. 32 ≤ at) Used (λ at. sector_at c at ≡ sector_at image at) stays held.pages pages_after_ring
        (pages_used held.used held.sectors held.pages s.pool s.table over.is_held.used_are))

    pointers_stay : SamePointers image c s.pool
    pointers_stay =
        all_from_both (LiesWithin state.seal.sectors s.pool.group) (λ (p : Pointer). Used p.place)
        (λ (p : Pointer). sector_at c p.place ≡ sector_at image p.place) (λ p lies used. stays p.place lies.start used) s.pool.pointers
        state.well_formed.within (pointers_used held.used held.sectors held.pages s.pool s.table over.is_held.used_are one_each)

    waiting_stay : SameWaiting image c s.table
    waiting_stay key home there none =
        waiting_has (λ (e : Entry). sector_at c e.home.place ≡ sector_at image e.home.place) s.table key home sorted_over there none
        (all_from_both (IsWithin held.sectors held.group) (λ (e : Entry). Used e.home.place)
        (λ (e : Entry). sector_at c e.home.place ≡ sector_at image e.home.place) (λ e within used. stays e.home.place within.place used)
        (waiting_in s.table) waiting_after_ring
        (waiting_used held.used held.sectors held.pages s.pool s.table over.is_held.used_are one_each_waiting))

    -- so the image holds what stood
    pub holds_still : length c ≡ length image → newest image_version c ≡ newest image_version image → Holds held.tag c s
    holds_still count seals = holds_kept held.tag image c s (holds_over image held s over) count seals pages_stay pointers_stay waiting_stay
