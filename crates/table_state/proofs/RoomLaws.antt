-- The need of a group is enough: where so many sectors are free, its blocks and the pages of its chains have room.
use Rattle.std.proofs.Common.{◌≡◌, ℕ, ◌+◌, ◌*◌, ◌≤◌, ◌==◌, not, List, [], ◌∷◌, length, map, sym, ap, ◌∙◌, arith}
use Rattle.std.specs.Prelude.{nat_lt}
use Rattle.std.specs.List.{count_by}
use Rattle.std.proofs.lemmas.Bool.Decides.{nat_tests}
use Rattle.std.proofs.lemmas.List.{length-map}
use Rattle.std.proofs.lemmas.List.Sums.{length-filter, sum_by-cons}
use Rattle.ddt_entry.specs.Spelling.{record_bytes}
use Rattle.disk_model.specs.Images.{Image}
use Rattle.page_tree.specs.ChainWrites.{pages_for}
use Rattle.grant_book.specs.Sectors.{marked}
use Rattle.grant_book.proofs.MarkLaws.{free_marked}
use Rattle.pool_model.specs.Pool.{Pool}
use Rattle.pool_model.specs.Mirrors.{Stored}
use Rattle.pool_model.specs.Space.{chain_pages, flush_room, image_pages, need}
use Rattle.pool_model.specs.Table.{TableState, flush_limit}
use Rattle.table_state.specs.Pools.{Held, IsHeld, slots_after, with_blocks}
use Rattle.table_state.specs.Flat.{pointer_of}
use Rattle.table_state.specs.Sealed.{records_in, entry_bytes}
use Rattle.table_state.specs.Spelling.{slot_bytes}
use Rattle.table_state.specs.Tables.{unique_in, duplicate_in, table_pages}
use Rattle.slot_table.specs.declared.slot.SlotRecord.{SlotRecord}
use Rattle.table_state.proofs.PagesOf.{pages_within_named}
use Rattle.table_state.proofs.SlotsAfter.{length_after}
use Rattle.table_state.proofs.TableRoom.{pages_after_plain}
use Rattle.table_state.specs.Closing.{PlainClosed, block_places, pages_of, pool_with, records_after, table_after, kept_of, kept_after}
use Rattle.pool_model.specs.Logs.{Logs, logs_after}
use Rattle.pool_model.specs.Replaying.{LoggedTable}

-- ---- The pages of the five chains

-- the pages of one list more
pub pages_of-cons : (records : List (List ℕ)) (lists : List (List (List ℕ)))
    → pages_of (records ∷ lists) ≡ pages_for (length records) + pages_of lists
pages_of-cons records lists = sum_by-cons (λ (rs : List (List ℕ)). pages_for (length rs)) records lists

five_lists : (slots unique duplicate active flushing : List (List ℕ))
    → pages_of (slots ∷ unique ∷ duplicate ∷ active ∷ flushing ∷ [])
    ≡ pages_for (length slots) +
    (pages_for (length unique) + pages_for (length duplicate) + pages_for (length active) + pages_for (length flushing))
five_lists slots unique duplicate active flushing =
    in_all _ _ _ _ _ _ _ _ _ _
    (pages_of-cons slots (unique ∷ duplicate ∷ active ∷ flushing ∷ [])) (pages_of-cons unique (duplicate ∷ active ∷ flushing ∷ []))
    (pages_of-cons duplicate (active ∷ flushing ∷ []))
    (pages_of-cons active (flushing ∷ [])) (pages_of-cons flushing [])
  where
    in_all : (s u d a f five four three two one : ℕ)
        → five ≡ s + four → four ≡ u + three → three ≡ d + two → two ≡ a + one → one ≡ f + 0 → five ≡ s + (u + d + a + f)
    in_all s u d a f five four three two one e5 e4 e3 e2 e1 = omega arith

same_pages : (s s' u u' d d' a a' f f' : ℕ) → s ≡ s' → u ≡ u' → d ≡ d' → a ≡ a' → f ≡ f'
    → pages_for s + (pages_for u + pages_for d + pages_for a + pages_for f)
    ≡ pages_for s' + (pages_for u' + pages_for d' + pages_for a' + pages_for f')
same_pages s s' u u' d d' a a' f f' es eu ed ea ef = cc

-- the records of slots, a table and its logs take as many pages as these
pub pages_of_records : (slots : List SlotRecord) (kept : LoggedTable)
    → pages_of (records_in slots kept) ≡ pages_for (length slots) + table_pages kept
pages_of_records slots kept =
    five_lists (map slot_bytes slots) (map entry_bytes (unique_in kept.table.zap)) (map entry_bytes (duplicate_in kept.table.zap))
    (map record_bytes kept.logs.active) (map record_bytes kept.logs.flushing)
    ∙ same_pages _ _ _ _ _ _ _ _ _ _ (length-map slots slot_bytes)
    (length-map (unique_in kept.table.zap) entry_bytes) (length-map (duplicate_in kept.table.zap) entry_bytes)
    (length-map kept.logs.active record_bytes) (length-map kept.logs.flushing record_bytes)

-- the pages of a pool's image are those of its slots, of its table and of its logs
pub image_pages_are : (pool : Pool) (kept : LoggedTable)
    → image_pages pool kept.table kept.logs ≡ pages_for (length pool.pointers) + table_pages kept
image_pages_are pool kept =
    put (pages_for (length pool.pointers)) _ _ _ _ _ _
    (ap chain_pages (sym (length-filter (λ entry. entry.home.count == 1) kept.table.zap)))
    (ap chain_pages (sym (length-filter (λ entry. nat_lt 1 entry.home.count) kept.table.zap)))
  where
    put : (s u d a f u' d' : ℕ) → u ≡ u' → d ≡ d' → s + u + d + a + f ≡ s + (u' + d' + a + f)
    put s u d a f u' d' same_u same_d = omega (arith, same_u, same_d)

-- so a group's chains take the pages that the image of its pool takes
pub sealed_pages : (image : Image) (held : Held) (closed : PlainClosed)
    → pages_of (records_after held closed)
    ≡ image_pages (pool_with image held closed) (table_after held closed) (logs_after closed.log held.table held.logs)
sealed_pages image held closed =
    pages_of_records (slots_after closed.slots held.slots) (kept_after held closed)
    ∙ ap (λ n. pages_for n + table_pages (kept_after held closed))
    (sym (length-map (slots_after closed.slots held.slots)
    (pointer_of (with_blocks closed.contents image) (table_after held closed))))
    ∙ sym (image_pages_are (pool_with image held closed) (kept_after held closed))

-- ---- What is held

abbrev kept_with : TableState → Logs → LoggedTable
kept_with table logs = record { table = table; logs = logs }

same_held : (slots slots' : List SlotRecord) (kept kept' : LoggedTable) (pages pages' : List ℕ)
    → slots ≡ slots' → kept ≡ kept' → pages ≡ pages'
    → pages_for (length slots') + table_pages kept' ≤ length pages' → pages_for (length slots) + table_pages kept ≤ length pages
same_held slots slots' kept kept' pages pages' es ek ep within =
    omega (arith, ap (λ (s : List SlotRecord). pages_for (length s)) es, ap table_pages ek, ap (λ (p : List ℕ). length p) ep, within)

same_kept : (table table' : TableState) (logs logs' : Logs) → table ≡ table' → logs ≡ logs'
    → kept_with table logs ≡ kept_with table' logs'
same_kept table table' logs logs' et el = cc

-- the slots, the table and the logs of a pool in memory take no more pages than its image has
held_pages : (image : Image) (held : Held) (pool : Pool) (table : TableState) → IsHeld image held pool table
    → pages_for (length held.slots) + table_pages (kept_of held) ≤ length held.pages
held_pages image held pool table is =
    same_held held.slots is.stands.flat.slots (kept_of held) _ held.pages is.stands.flat.named is.slots_are
    (same_kept _ _ _ _ (is.table_is ∙ is.stands.table_is) is.logs_are) is.pages_are
    (pages_within_named is.stands.seal is.stands.flat is.stands.whole image is.stands.read)

-- ---- The need

-- what a group needs has room for its writes and what the metadata may grow
need_covers : (pages limit changes writes : ℕ) → writes + (pages + 6 * changes + flush_room limit) ≤ need pages limit changes writes
need_covers pages limit changes writes = grind (arith, nat_tests)

-- the need of a group is enough
pub need_enough : (image : Image) (held : Held) (pool : Pool) (table : TableState) (closed : PlainClosed) (commands writes : ℕ)
    → IsHeld image held pool table → length closed.slots ≤ commands → length closed.log ≤ commands → length closed.contents ≤ writes
    → need (length held.pages) (flush_limit held.table) commands writes ≤ count_by not held.used
    → pages_of (records_after held closed) ≤ count_by not (marked held.used (block_places closed.contents))
need_enough image held pool table closed commands writes is slots log contents room =
    in_all _ _ _ (length held.pages) (flush_limit held.table) commands writes (length closed.contents) _ _ _
    (pages_of_records (slots_after closed.slots held.slots) (kept_after held closed))
    (pages_after_plain (length held.slots) (length (slots_after closed.slots held.slots)) commands closed.log (kept_of held)
    (omega (arith, slots, length_after closed.slots held.slots)) log)
    (held_pages image held pool table is)
    (need_covers (length held.pages) (flush_limit held.table) commands writes)
    room
    (omega (arith, free_marked (block_places closed.contents) held.used, length-map closed.contents (λ (stored : Stored). stored.place)))
    contents
  where
    in_all : (lists after before pages limit c w blocks needed free left : ℕ) → lists ≡ after → after ≤ before + (2 * c + 2 * limit + 1)
        → before ≤ pages → w + (pages + 6 * c + flush_room limit) ≤ needed → needed ≤ free → free ≤ left + blocks
        → blocks ≤ w → lists ≤ left
    in_all lists after before pages limit c w blocks needed free left e1 e2 e3 e4 e5 e6 e7 = omega arith
