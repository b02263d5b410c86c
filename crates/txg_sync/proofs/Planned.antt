-- The parts of a plan are what a group leaves.
use Rattle.std.proofs.Common.{◌≡◌, ℕ, ◌+◌, true, replicate, List, [], ◌∷◌, ◌++◌, length, sym, ap, subst, ◌∙◌, arith}
use Rattle.std.specs.List.{AllByRecursion}
use Rattle.ddt_entry.specs.Spelling.{Fits, IsKeyLength}
use Rattle.ddt_entry.specs.declared.entry.Change.TheVariants.{Entry as AnEntry}
use Rattle.page_tree.specs.Pointers.{null_pointer}
use Rattle.page_tree.specs.declared.pointer.PagePtr.{PagePtr}
use Rattle.uber_ring.specs.declared.seal.Seal.{Seal}
use Rattle.pool_model.specs.Space.{used_sectors}
use Rattle.pool_model.specs.Table.{TableState, counted_homes}
use Rattle.table_state.specs.Spelling.{FitsSlot}
use Rattle.table_state.specs.Pools.{Held, slots_after, pool_after}
use Rattle.table_state.specs.Sealed.{ChainPart, places_in, records_in, seal_of}
use Rattle.table_state.specs.SlotRecords.{is_slot}
use Rattle.table_state.specs.Sound.{IsSound, HasKeyLengths}
use Rattle.table_state.specs.Tables.{IsTableWithin}
use Rattle.slot_table.specs.declared.slot.SlotRecord.{SlotRecord}
use Rattle.pool_model.proofs.Lists.{all_from}
use Rattle.table_state.proofs.SlotLaws.{is_slot-from}
use Rattle.table_state.proofs.SlotsAfter.{within_after, within_later}
use Rattle.table_state.proofs.Syncing.{sync_within, sync_lengths}
use Rattle.pool_stats.specs.Totals.{totals_in}
use Rattle.txg_sync.specs.Placing.{ArePlaced}
use Rattle.table_state.specs.Closing.{PlainClosed, IsInRange, kept_of}
use Rattle.txg_sync.specs.Planning.{IsMadeOf, IsPlan}
use Rattle.pool_model.specs.Replaying.{LoggedTable, sync_logged}

module _ (held : Held) (closed : PlainClosed) (sound : IsSound held) (range : IsInRange held closed) where
  pub lengths_after : (kept : LoggedTable) → kept ≡ sync_logged closed.log (kept_of held) → HasKeyLengths kept.table
  lengths_after kept is =
      subst (λ (k : LoggedTable). HasKeyLengths k.table) (sym is) (sync_lengths closed.log held.table sound.lengths range.lengths)

  pub table_within_after : (kept : LoggedTable) → kept ≡ sync_logged closed.log (kept_of held)
      → IsTableWithin held.sectors (held.group + 1) kept.table
  table_within_after kept is =
      subst (λ (k : LoggedTable). IsTableWithin held.sectors (held.group + 1) k.table) (sym is)
      (sync_within held.sectors held.group (held.group + 1) closed.log held.table (omega arith) sound.within range.changes)

  pub slot_lengths_after : (slots : List SlotRecord) → slots ≡ slots_after closed.slots held.slots
      → AllByRecursion (λ slot. IsKeyLength slot.pointer.key.len) slots
  slot_lengths_after slots is =
      subst (λ (s : List SlotRecord). AllByRecursion (λ (slot : SlotRecord). IsKeyLength slot.pointer.key.len) s) (sym is)
      (all_from (λ (slot : SlotRecord). is_slot held.sectors (held.group + 1) slot ≡ true)
      (λ (slot : SlotRecord). IsKeyLength slot.pointer.key.len)
      (λ slot within. (is_slot-from held.sectors (held.group + 1) slot within).len) (slots_after closed.slots held.slots)
      (within_after held.sectors (held.group + 1) closed.slots held.slots range.slots
      (within_later held.sectors held.group (held.group + 1) (omega arith) held.slots sound.slots_within)))

-- so they make a plan
pub is_plan : (held : Held) (closed : PlainClosed) (slots : List SlotRecord) (kept : LoggedTable) (parts : List ChainPart)
    (pages : List ℕ) (seal : Seal) (next : Held)
    → slots ≡ slots_after closed.slots held.slots → kept ≡ sync_logged closed.log (kept_of held) → ArePlaced held.used closed.contents
    (records_in slots kept) parts → pages ≡ places_in parts
    → ((roots : List PagePtr) → record seal { pointers = roots ++ null_pointer ∷ [] } ≡ seal_of held.tag held.sectors (held.group + 1)
    closed.modes closed.quota kept roots (length pages))
    → seal.pointers ≡ replicate 6 null_pointer
    → IsMadeOf held closed slots kept pages next → AllByRecursion FitsSlot slots → AllByRecursion (λ entry. Fits (AnEntry entry)) kept.table.zap
    → IsPlan held closed next parts seal
is_plan held closed slots kept parts pages seal next slots_are kept_is placed pages_are seal_is null made slots_fit fit = record {
  is_next = record {
    slots_are = made.slots_are ∙ slots_are;
    table_is = ap (λ (k : LoggedTable). k.table) (made.kept_is ∙ kept_is);
    logs_are = ap (λ (k : LoggedTable). k.logs) (made.kept_is ∙ kept_is);
    keys_are = made.keys_are ∙ ap (λ (k : LoggedTable). length (counted_homes k.table)) (sym made.kept_is);
    totals_are = made.totals_are ∙ ap (λ (k : LoggedTable). totals_in (counted_homes k.table)) (sym made.kept_is);
    pages_are = made.pages_are ∙ pages_are;
    pending_are = made.pending_are;
    used_are =
        made.used_are closed.modes closed.quota (held.group + 1)
        ∙ ap (λ (ps : List ℕ). used_sectors held.sectors ps (pool_after [] [] slots kept.table closed.modes closed.quota (held.group + 1)) kept.table)
        pages_are
        ∙ ap (λ (s : List SlotRecord). used_sectors held.sectors (places_in parts)
        (pool_after [] [] s kept.table closed.modes closed.quota (held.group + 1)) kept.table) (sym made.slots_are)
        ∙ ap (λ (t : TableState). used_sectors held.sectors (places_in parts)
        (pool_after [] [] next.slots t closed.modes closed.quota (held.group + 1)) t) (sym (ap (λ (k : LoggedTable). k.table) made.kept_is));
    modes_are = made.modes_are;
    quota_is = made.quota_is;
    tag_is = made.tag_is;
    group_is = made.group_is;
    sectors_are = made.sectors_are;
  };
  keys_few = made.keys_few;
  null = null;
  slots_fit = subst (λ (s : List SlotRecord). AllByRecursion FitsSlot s) (sym made.slots_are) slots_fit;
  zap_fits = subst (λ (k : LoggedTable). AllByRecursion (λ entry. Fits (AnEntry entry)) k.table.zap) (sym made.kept_is) fit;
  placed =
      subst (λ (s : List SlotRecord). ArePlaced held.used closed.contents (records_in s (kept_of next)) parts) (sym made.slots_are)
      (subst (λ (k : LoggedTable). ArePlaced held.used closed.contents (records_in slots k) parts) (sym made.kept_is) placed);
  seal_is = λ roots.
      seal_is roots
      ∙ ap (λ (ps : List ℕ). seal_of held.tag held.sectors (held.group + 1) closed.modes closed.quota kept roots (length ps)) pages_are
      ∙ ap (λ (k : LoggedTable). seal_of held.tag held.sectors (held.group + 1) closed.modes closed.quota k roots (length (places_in parts)))
      (sym made.kept_is);
}
