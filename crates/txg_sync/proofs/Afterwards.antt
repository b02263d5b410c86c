-- What an image stands for once a group's gate is open.
use Rattle.std.proofs.Common.{◌≡◌, ℕ, zero, suc, ◌+◌, ◌^◌, ◌≤◌, Bool, true, false, replicate, ◌||◌, ◌==◌, List, [], ◌∷◌, Some, length, map, refl, sym, ap, subst, ◌∙◌, ⊎_elim, arith}
use Rattle.std.proofs.lemmas.Bool.Decides.{eqb_tells}
use Rattle.pool_model.proofs.Lists.{all_from, all_from_both}
use Rattle.std.specs.Prelude.{slice_index_or, take}
use Rattle.std.specs.List.{AllByRecursion, list_any, range_with_len}
use Rattle.std.proofs.lemmas.Bool.{lt-ltb}
use Rattle.std.proofs.lemmas.List.{length-map}
use Rattle.std.proofs.lemmas.List.FromFn.{get_or-map-range_with_len, length-range_with_len}
use Rattle.ddt_entry.specs.Spelling.{Fits as ChangeFits}
use Rattle.ddt_entry.specs.declared.entry.Entry.{Entry}
use Rattle.ddt_entry.specs.declared.entry.Change.TheVariants as changes
use Rattle.disk_model.specs.Images.{Image, sector_at}
use Rattle.uber_ring.specs.declared.seal.Seal.{Seal}
use Rattle.page_tree.specs.ChainWrites.{AreOpen}
use Rattle.pool_model.specs.Pool.{Pool, Pointer, Pairwise}
use Rattle.pool_model.specs.Mirrors.{Stored}
use Rattle.pool_model.specs.Space.{is_used, used_sectors}
use Rattle.pool_model.specs.Table.{TableState, found, waiting_in, IsTable, counted_homes}
use Rattle.slot_table.specs.Slots.{stands_before}
use Rattle.pool_stats.specs.Totals.{totals_in}
use Rattle.table_state.specs.Flat.{Flat, StandsFor, IsClear, IsWithin, IsChangeWithin, pointer_of, logs_in}
use Rattle.table_state.specs.Holding.{Holds, WaitingStand}
use Rattle.table_state.specs.Over.{StandsOver}
use Rattle.table_state.specs.Pools.{Held, IsHeld, slots_after, pool_after, with_blocks}
use Rattle.table_state.specs.SealForms.{last_group}
use Rattle.table_state.specs.SlotRecords.{is_slot}
use Rattle.table_state.specs.Spelling.{FitsSlot}
use Rattle.table_state.specs.Sound.{IsSound, HasKeyLengths}
use Rattle.table_state.specs.Sealed.{ChainPart, places_in, records_in, roots_of, seal_of, flat_of, CanBeKept, AreParts, CanStand, IsSealedImage}
use Rattle.table_state.specs.Tables.{IsTableWithin, AreLogsWithin, HaveKeyLengths}
use Rattle.slot_table.specs.declared.slot.SlotRecord.{SlotRecord}
use Rattle.table_state.proofs.SlotLaws.{is_slot-from}
use Rattle.table_state.proofs.SlotsAfter.{rising_after, within_after, within_later}
use Rattle.table_state.proofs.Stands.{sealed_stands, sealed_by, sealed_keeps}
use Rattle.table_state.proofs.Syncing.{sync_within, sync_lengths, logs_sync_within, logs_sync_lengths}
use Rattle.table_state.proofs.UsedLaws.{all_waiting, used_same}
use Rattle.pool_model.proofs.Waiting.{waiting_has}
use Rattle.pool_model.proofs.Syncing.{sync_keeps, sync_checkpoint}
use Rattle.table_state.specs.Closing.{PlainClosed, CanSync, IsInRange, IsNamed, table_after, pool_with, standing_with, kept_of, kept_after}
use Rattle.txg_sync.specs.Planning.{IsPlan}
use Rattle.txg_sync.specs.Writing.{IsSealed, with_roots}
use Rattle.txg_sync.proofs.Outcomes.{apart_from_unused}
use Rattle.pool_model.specs.Logs.{Logs}
use Rattle.pool_model.specs.Replaying.{LoggedTable, Replays}
use Rattle.pool_model.proofs.Replays.{sync_replays}

-- the values of slots, of a table and of its logs have a spelling
pub record AreSpelt (slots : List SlotRecord) (kept : LoggedTable) : Type 0 where
  pub slots_fit : AllByRecursion FitsSlot slots
  pub zap : AllByRecursion (λ entry. ChangeFits (changes.Entry entry)) kept.table.zap
  pub active : AllByRecursion ChangeFits kept.logs.active
  pub flushing : AllByRecursion ChangeFits kept.logs.flushing

-- what is no block of the group and isn't used is no place that is named
no_block_at : (contents : List Stored) (places : List ℕ) (at : ℕ)
    → AllByRecursion (λ place. list_any (λ stored. stored.place == place) contents ≡ false) places
    → list_any (λ stored. stored.place == at) contents ≡ true → list_any (λ place. place == at) places ≡ false
no_block_at contents [] at none here = refl
no_block_at contents (place ∷ places) at none here =
    ⊎_elim
    (λ same. absurd (clash (sym here ∙ ap (λ p. list_any (λ (s : Stored). s.place == p) contents) (sym same.1) ∙ none.0)))
    (λ other. ap (λ b. b || list_any (λ p. p == at) places) other.0 ∙ no_block_at contents places at none.1 here)
    (eqb_tells place at)
  where
    clash : true ≡ false → ⊥
    clash e = cc e

two : {X : Type 0} (P Q S : X → Type 0) → ((x : X) → P x → Q x → S x) → (xs : List X) → AllByRecursion P xs → AllByRecursion Q xs
    → AllByRecursion S xs
two P Q S from [] p q = tt
two P Q S from (x ∷ xs) p q = (from x p.0 q.0, two P Q S from xs p.1 q.1)

mapped_slots : (P : ℕ → Type 0) (image : Image) (table : TableState) (slots : List SlotRecord)
    → AllByRecursion (λ slot. P slot.pointer.place) slots → AllByRecursion (λ (p : Pointer). P p.place) (map (pointer_of image table) slots)
mapped_slots P image table [] all = tt
mapped_slots P image table (slot ∷ slots) all = (all.0, mapped_slots P image table slots all.1)

-- a used sector is in the set, so asking past its end makes no difference
default_true : (used : List Bool) (at : ℕ) → slice_index_or used at false ≡ true → slice_index_or used at true ≡ true
default_true [] at e = refl
default_true (b ∷ used) zero e = e
default_true (b ∷ used) (suc at) e = default_true used at e

abbrev pub kept_with : TableState → Logs → LoggedTable
kept_with table logs = record { table = table; logs = logs }

pub same_kept : (table table' : TableState) (logs logs' : Logs) → table ≡ table' → logs ≡ logs' → kept_with table logs ≡ kept_with table' logs'
same_kept table table' logs logs' et el = cc

-- a pool in memory that agrees with what an image stands for
made_held : (c : Image) (next : Held) → IsSound next → (pool : Pool) (table : TableState) (tag : ℕ) → next.tag ≡ tag
    → (state : StandsFor tag c pool table)
    → next.slots ≡ state.flat.slots → next.logs ≡ logs_in state.flat → next.pages ≡ state.flat.named → next.sectors ≡ state.seal.sectors
    → next.table ≡ table → next.used ≡ used_sectors next.sectors next.pages pool table → next.modes ≡ pool.modes → next.quota ≡ pool.quota
    → next.group ≡ pool.group → IsHeld c next pool table
made_held c next sound pool table tag same =
    subst
    (λ t. (state : StandsFor t c pool table) → next.slots ≡ state.flat.slots → next.logs ≡ logs_in state.flat
    → next.pages ≡ state.flat.named → next.sectors ≡ state.seal.sectors
    → next.table ≡ table → next.used ≡ used_sectors next.sectors next.pages pool table → next.modes ≡ pool.modes → next.quota ≡ pool.quota
    → next.group ≡ pool.group → IsHeld c next pool table)
    same
    (λ state slots logs pages sectors tables used modes quota group. record {
      stands = state;
      slots_are = slots;
      table_is = tables;
      logs_are = logs;
      keys_are = sound.keys_are ∙ ap (λ (t : TableState). length (counted_homes t)) tables;
      keys_few = sound.keys_few;
      totals_are = sound.totals_are ∙ ap (λ (t : TableState). totals_in (counted_homes t)) tables;
      settled = sound.settled;
      pages_are = pages;
      used_are = used;
      modes_are = modes;
      quota_is = quota;
      group_is = group;
      sectors_are = sectors;
    })

module _ (held : Held) (closed : PlainClosed) (sound : IsSound held) (range : IsInRange held closed) (last : held.group + 1 ≤ last_group)
    (next : Held) (parts : List ChainPart) (seal : Seal) (plan : IsPlan held closed next parts seal) where
  abbrev slots' : List SlotRecord
  slots' = slots_after closed.slots held.slots

  abbrev table' : TableState
  table' = table_after held closed

  abbrev kept' : LoggedTable
  kept' = kept_after held closed

  kept_is : kept_of next ≡ kept'
  kept_is = same_kept _ _ _ _ plan.is_next.table_is plan.is_next.logs_are

  within' : AllByRecursion (λ slot. is_slot held.sectors (held.group + 1) slot ≡ true) slots'
  within' =
      within_after held.sectors (held.group + 1) closed.slots held.slots range.slots
      (within_later held.sectors held.group (held.group + 1) (omega arith) held.slots sound.slots_within)

  table_within' : IsTableWithin held.sectors (held.group + 1) table'
  table_within' = sync_within held.sectors held.group (held.group + 1) closed.log held.table (omega arith) sound.within range.changes

  lengths' : HasKeyLengths table'
  lengths' = sync_lengths closed.log held.table sound.lengths range.lengths

  logs_within' : AreLogsWithin held.sectors (held.group + 1) kept'.logs
  logs_within' =
      logs_sync_within held.sectors held.group (held.group + 1) closed.log (kept_of held) (omega arith) sound.logs_within range.changes

  log_lengths' : HaveKeyLengths kept'.logs
  log_lengths' = logs_sync_lengths closed.log (kept_of held) sound.log_lengths range.lengths

  replays' : Replays kept'.table kept'.logs
  replays' = sync_replays closed.log held.table held.logs sound.replays

  sorted' : IsTable table'
  sorted' = sync_keeps closed.log held.table sound.sorted

  open' : AreOpen held.sectors [] (places_in parts)
  open' = subst (λ n. AreOpen n [] (places_in parts)) sound.used_len plan.placed.places_open

  -- whatever the disk tells, the pool after the group is sound
  pub sound_after : IsSound next
  sound_after = record {
    enough = subst (λ n. 2048 ≤ n) (sym plan.is_next.sectors_are) sound.enough;
    few = subst (λ n. n ≤ 1000000) (sym plan.is_next.sectors_are) sound.few;
    first = omega (arith, plan.is_next.group_is);
    last = subst (λ n. n ≤ last_group) (sym plan.is_next.group_is) last;
    settled = plan.is_next.pending_are ∙ ap (λ n. replicate n false) (sym plan.is_next.sectors_are);
    keys_are = plan.is_next.keys_are;
    keys_few = plan.keys_few;
    totals_are = plan.is_next.totals_are;
    used_len =
        ap length plan.is_next.used_are ∙ length-map (range_with_len 0 held.sectors) (is_used (places_in parts) bare next.table)
        ∙ length-range_with_len 0 held.sectors ∙ sym plan.is_next.sectors_are;
    ring = λ sector within.
        ap (λ (u : List Bool). slice_index_or u sector true) plan.is_next.used_are
        ∙ get_or-map-range_with_len (is_used (places_in parts) bare next.table) 0 held.sectors sector sector true
        (omega (arith, within, sound.enough)) (omega arith)
        ∙ any_ring _ _ _ _ (lt-ltb sector 32 within);
    slots_within =
        subst (λ (s : List SlotRecord). AllByRecursion (λ slot. is_slot next.sectors next.group slot ≡ true) s) (sym plan.is_next.slots_are)
        (subst (λ n. AllByRecursion (λ slot. is_slot n next.group slot ≡ true) slots') (sym plan.is_next.sectors_are)
        (subst (λ n. AllByRecursion (λ slot. is_slot held.sectors n slot ≡ true) slots') (sym plan.is_next.group_is) within'));
    within =
        subst (IsTableWithin next.sectors next.group) (sym plan.is_next.table_is)
        (subst (λ n. IsTableWithin n next.group table') (sym plan.is_next.sectors_are)
        (subst (λ n. IsTableWithin held.sectors n table') (sym plan.is_next.group_is) table_within'));
    slots_rising =
        subst (λ (s : List SlotRecord). Pairwise (λ a b. stands_before a b ≡ true) s) (sym plan.is_next.slots_are)
        (rising_after closed.slots held.slots sound.slots_rising);
    sorted = subst IsTable (sym plan.is_next.table_is) sorted';
    lengths = subst HasKeyLengths (sym plan.is_next.table_is) lengths';
    logs_within =
        subst (AreLogsWithin next.sectors next.group) (sym plan.is_next.logs_are)
        (subst (λ n. AreLogsWithin n next.group kept'.logs) (sym plan.is_next.sectors_are)
        (subst (λ n. AreLogsWithin held.sectors n kept'.logs) (sym plan.is_next.group_is) logs_within'));
    log_lengths = subst HaveKeyLengths (sym plan.is_next.logs_are) log_lengths';
    replays = subst (λ (k : LoggedTable). Replays k.table k.logs) (sym kept_is) replays';
    counts = λ key home there.
        subst (λ (s : List SlotRecord). home.count ≤ length s) (sym plan.is_next.slots_are)
        (range.counts key home (ap (λ (t : TableState). found t key) (sym plan.is_next.table_is) ∙ there));
  }
    where
      bare : Pool
      bare = pool_after [] [] next.slots next.table closed.modes closed.quota (held.group + 1)

      any_ring : (a b c d : Bool) → a ≡ true → (a || b || c || d) ≡ true
      any_ring true b c d e = refl
      any_ring false b c d e = absurd (cc e)

  module _ (image : Image) (there : held.sectors ≤ length image) (small : length image ≤ 2 ^ 64) (can : CanSync image held closed)
      (spelt : AreSpelt next.slots (kept_of next)) where
    abbrev pool' : Pool
    pool' = pool_with image held closed

    spelt' : AreSpelt slots' kept'
    spelt' = subst (AreSpelt slots') kept_is
        (subst (λ (s : List SlotRecord). AreSpelt s (kept_of next)) plan.is_next.slots_are spelt)

    can_keep : CanBeKept held.sectors (held.group + 1) slots' kept'
    can_keep = record {
      enough = sound.enough;
      few = sound.few;
      first = omega arith;
      last = last;
      slots_within = within';
      slots_rising = rising_after closed.slots held.slots sound.slots_rising;
      sorted = sorted';
      replays = replays';
      zap_within = table_within'.zap;
      logs_within = logs_within';
      slots_fit = spelt'.slots_fit;
      zap_fits = spelt'.zap;
      active_fits = spelt'.active;
      flushing_fits = spelt'.flushing;
      zap_lengths = lengths'.zap;
      log_lengths = log_lengths';
      checkpoint = sync_checkpoint closed.log held.table;
    }

    are_parts : AreParts held.sectors slots' kept' parts
    are_parts = record {
      spelled = plan.placed.spelled ∙ ap (λ (s : List SlotRecord). records_in s (kept_of next)) plan.is_next.slots_are
          ∙ ap (records_in slots') kept_is;
      pages = plan.placed.pages;
      places_open = open';
    }

    -- no page lies where a block is named
    clear_if_named : (place : ℕ) → IsNamed held.used closed.contents place → IsClear (places_in parts) place
    clear_if_named place named =
        ⊎_elim
        (λ used. apart_from_unused held.used (places_in parts) place plan.placed.unused (default_true held.used place used))
        (λ block. no_block_at closed.contents (places_in parts) place plan.placed.no_block block)
        named

    clear_slots : AllByRecursion (λ (slot : SlotRecord). IsClear (places_in parts) slot.pointer.place) slots'
    clear_slots =
        all_from (λ (slot : SlotRecord). IsNamed held.used closed.contents slot.pointer.place)
        (λ (slot : SlotRecord). IsClear (places_in parts) slot.pointer.place) (λ slot named. clear_if_named slot.pointer.place named) slots'
        can.pointers_named

    clear_waiting : AllByRecursion (λ (entry : Entry). IsClear (places_in parts) entry.home.place) (waiting_in table')
    clear_waiting =
        all_from (λ (entry : Entry). IsNamed held.used closed.contents entry.home.place)
        (λ (entry : Entry). IsClear (places_in parts) entry.home.place) (λ entry named. clear_if_named entry.home.place named)
        (waiting_in table') can.waiting_named

    waiting_after_ring : AllByRecursion (IsWithin held.sectors (held.group + 1)) (waiting_in table')
    waiting_after_ring =
        all_waiting (IsWithin held.sectors (held.group + 1)) (IsChangeWithin held.sectors (held.group + 1)) (λ entry within. within) table'
        table_within'.zap table_within'.flush table_within'.active

    can_stand : CanStand held.sectors (places_in parts) pool' table'
    can_stand = record {
      well_formed = can.well_formed;
      matches = can.matches;
      pointers_clear = mapped_slots (IsClear (places_in parts)) (with_blocks closed.contents image) table' slots' clear_slots;
      waiting_clear = clear_waiting;
    }

    module _ (slot : ℕ) (c : Image) (sealed : IsSealed slot closed.contents parts (with_roots seal parts) image c) where
      rooted : with_roots seal parts
          ≡ seal_of held.tag held.sectors (held.group + 1) closed.modes closed.quota kept' (roots_of parts) (length (places_in parts))
      rooted =
          plan.seal_is (roots_of parts)
          ∙ ap (λ (k : LoggedTable). seal_of held.tag held.sectors (held.group + 1) closed.modes closed.quota k (roots_of parts)
          (length (places_in parts))) kept_is

      is_image : IsSealedImage held.tag held.sectors (held.group + 1) image c slots' kept' closed.modes closed.quota closed.contents parts
      is_image = record {
        counts = sealed.counts ∙ ap Some rooted;
        there = omega (arith, there, sealed.only.count);
        held = sealed.held;
        blocks =
            two (λ (s : SlotRecord). is_slot held.sectors (held.group + 1) s ≡ true)
            (λ (s : SlotRecord). IsClear (places_in parts) s.pointer.place)
            (λ (s : SlotRecord). sector_at c s.pointer.place ≡ sector_at (with_blocks closed.contents image) s.pointer.place)
            (λ s is clear. sealed.blocks s.pointer.place (is_slot-from held.sectors (held.group + 1) s is).place.0 clear) slots' within'
            clear_slots;
      }

      size : length c ≤ 2 ^ 64
      size = omega (arith, small, sealed.only.count)

      -- the image stands for the pool after the group
      pub stands_after : StandsFor held.tag c pool' table'
      stands_after =
          sealed_stands held.tag held.sectors (held.group + 1) slots' kept' closed.modes closed.quota can_keep image c closed.contents
          parts are_parts can_stand size is_image

      kept_flat : stands_after.flat ≡ flat_of slots' kept' (places_in parts)
      unfolding stands_after
      kept_flat =
          sealed_keeps held.tag held.sectors (held.group + 1) slots' kept' closed.modes closed.quota can_keep image c closed.contents parts
          are_parts can_stand size is_image

      kept_seal : stands_after.seal
          ≡ seal_of held.tag held.sectors (held.group + 1) closed.modes closed.quota kept' (roots_of parts) (length (places_in parts))
      unfolding stands_after
      kept_seal =
          sealed_by held.tag held.sectors (held.group + 1) slots' kept' closed.modes closed.quota can_keep image c closed.contents parts
          are_parts can_stand size is_image

      used' : next.used ≡ used_sectors next.sectors next.pages pool' table'
      used' =
          plan.is_next.used_are
          ∙ ap (λ (s : List SlotRecord). used_sectors held.sectors (places_in parts)
          (pool_after [] [] s next.table closed.modes closed.quota (held.group + 1)) next.table) plan.is_next.slots_are
          ∙ ap (λ (t : TableState). used_sectors held.sectors (places_in parts)
          (pool_after [] [] slots' t closed.modes closed.quota (held.group + 1)) t) plan.is_next.table_is
          ∙ used_same held.sectors (places_in parts) slots' table' [] image [] closed.contents closed.modes closed.modes closed.quota
          closed.quota (held.group + 1) (held.group + 1)
          ∙ ap (λ n. used_sectors n (places_in parts) pool' table') (sym plan.is_next.sectors_are)
          ∙ ap (λ (ps : List ℕ). used_sectors next.sectors ps pool' table') (sym plan.is_next.pages_are)

      -- and the pool in memory is that one
      pub held_after : IsHeld c next pool' table'
      held_after =
          made_held c next sound_after pool' table' held.tag plan.is_next.tag_is stands_after
          (plan.is_next.slots_are ∙ ap (λ (f : Flat). f.slots) (sym kept_flat))
          (plan.is_next.logs_are ∙ ap logs_in (sym kept_flat))
          (plan.is_next.pages_are ∙ ap (λ (f : Flat). f.named) (sym kept_flat))
          (plan.is_next.sectors_are ∙ ap (λ (s : Seal). s.sectors) (sym kept_seal))
          plan.is_next.table_is used' plan.is_next.modes_are plan.is_next.quota_is plan.is_next.group_is

      waiting_stand : WaitingStand c (standing_with image held closed (places_in parts))
      waiting_stand key home there none =
          waiting_has (λ (e : Entry). take e.key.len (sector_at (with_blocks closed.contents image) e.home.place) ≡ take e.key.len
          (sector_at c e.home.place))
          table' key home sorted' there none
          (all_from_both (IsWithin held.sectors (held.group + 1)) (λ (e : Entry). IsClear (places_in parts) e.home.place)
          (λ (e : Entry). take e.key.len (sector_at (with_blocks closed.contents image) e.home.place) ≡ take e.key.len
          (sector_at c e.home.place))
          (λ e within clear. ap (take e.key.len) (sym (sealed.blocks e.home.place within.place clear))) (waiting_in table')
          waiting_after_ring clear_waiting)

      -- so the image holds what stands after the group
      pub holds_after : Holds held.tag c (standing_with image held closed (places_in parts))
      holds_after = record {
        state = stands_after;
        logs = ap logs_in kept_flat;
        sectors = ap (λ (s : Seal). s.sectors) kept_seal;
        pages = ap (λ (f : Flat). f.named) kept_flat;
        waiting = waiting_stand;
      }

      -- and the pool in memory is over it
      pub over_after : StandsOver c next (standing_with image held closed next.pages)
      over_after = record {
        is_held = held_after;
        logs = plan.is_next.logs_are;
        sectors = plan.is_next.sectors_are;
        pages = refl;
        waiting = waiting_stand;
      }
