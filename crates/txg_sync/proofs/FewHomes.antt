-- The table after a group finds few homes, once its chains have places among the pool's sectors.
use Rattle.std.proofs.Common.{◌≡◌, ◌∙◌, ◌^◌, ◌<◌, ◌≤◌, List, [], length, ap, sym, subst, arith}
use Rattle.page_tree.proofs.OpenPlaces.{open_places-fewer}
use Rattle.pool_model.specs.Mirrors.{Stored}
use Rattle.pool_model.specs.Table.{IsTable, entries_found}
use Rattle.pool_model.proofs.Syncing.{sync_keeps}
use Rattle.ddt_entry.specs.declared.entry.Change.{Change}
use Rattle.table_state.specs.Pools.{Held}
use Rattle.table_state.specs.Sealed.{ChainPart, places_in, records_in}
use Rattle.table_state.specs.Sound.{IsSound}
use Rattle.table_state.specs.Tables.{table_pages}
use Rattle.slot_table.specs.declared.slot.SlotRecord.{SlotRecord}
use Rattle.table_state.proofs.RoomLaws.{pages_of_records}
use Rattle.table_state.specs.Closing.{pages_of, kept_of}
use Rattle.txg_sync.specs.Placing.{ArePlaced}
use Rattle.txg_sync.proofs.PlacedParts.{places_as_pages}
use Rattle.txg_sync.proofs.PlannedLimits.{few_found}
use Rattle.pool_model.specs.Replaying.{LoggedTable, Replays, sync_logged}
use Rattle.pool_model.proofs.Replays.{sync_replays}

module _ (held : Held) (sound : IsSound held) (contents : List Stored) (slots : List SlotRecord) (kept : LoggedTable)
    (parts : List ChainPart) (placed : ArePlaced held.used contents (records_in slots kept) parts) where
  -- each page has a sector of its own
  few_pages : table_pages kept ≤ 1_000_000
  few_pages =
      let spelled : length (places_in parts) ≡ pages_of (records_in slots kept) =
      places_as_pages parts placed.pages ∙ ap pages_of placed.spelled in
      let some : 0 < length held.used = omega (arith, sound.used_len, sound.enough) in
      let fewer = open_places-fewer (length held.used) [] (places_in parts) some placed.places_open in
      omega (arith, spelled, pages_of_records slots kept, fewer, sound.used_len, sound.few)

  pub few_homes : (log : List Change) → kept ≡ sync_logged log (kept_of held) → length (entries_found kept.table) ≤ 2 ^ 40
  few_homes log is = few_found kept
      (subst (λ (k : LoggedTable). IsTable k.table) (sym is) (sync_keeps log held.table sound.sorted))
      (subst (λ (k : LoggedTable). Replays k.table k.logs) (sym is) (sync_replays log held.table held.logs sound.replays)) few_pages
