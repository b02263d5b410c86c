-- The pool that is left is the one after the group, and the parts of the plan are its own.
use Rattle.std.proofs.Common.{◌≡◌, ◌∙◌, ◌+◌, ℕ, Bool, false, List, [], length, map, replicate, refl, sym, ap, subst, arith}
use Rattle.std.specs.Prelude.{nat_lt}
use Rattle.std.specs.List.{AllByRecursion}
use Rattle.ddt_entry.specs.Spelling.{IsKeyLength}
use Rattle.ddt_entry.specs.declared.entry.Entry.{Entry}
use Rattle.pool_model.specs.Space.{used_sectors}
use Rattle.pool_model.specs.Replaying.{sync_logged}
use Rattle.pool_model.specs.Table.{IsTable, entries_found, counted_homes}
use Rattle.pool_model.specs.Mirrors.{stored_of}
use Rattle.pool_model.proofs.Lists.{length-filter-le}
use Rattle.table_state.specs.Closing.{closed_of, kept_of}
use Rattle.table_state.specs.Pools.{Held, pool_after, slots_after}
use Rattle.table_state.specs.Sealed.{places_in, records_in, seal_of}
use Rattle.table_state.specs.Spelling.{FitsSlot}
use Rattle.table_state.proofs.UsedLaws.{length-used_sectors}
use Rattle.slot_table.specs.declared.slot.SlotRecord.{SlotRecord}
use Rattle.uber_ring.specs.declared.seal.Seal.{Seal}
use Rattle.pool_stats.specs.Totals.{totals_in}
use Rattle.txg_sync.specs.Placing.{AreUsed, ArePlaced}
use Rattle.txg_sync.proofs.FewHomes.{few_homes}
use Rattle.txg_sync.proofs.Planned.{lengths_after, table_within_after, slot_lengths_after, is_plan}
use Rattle.txg_sync.proofs.PlannedLimits.{found_small}
use Rattle.txg_sync.proofs.planning.plan_group.Goals as goal

pub chains_of-requires-clause-lengths : goal.chains_of-requires-clause-lengths
chains_of-requires-clause-lengths g c =
    lengths_after c.args.pool.now (closed_of c.args.closed.now) c.requires.sound c.requires.range c.sync_table.new.table
    (c.in_ok-sync_table.ensures.kept ∙ ap (λ l. sync_logged l c.pool.inside.table) c.as_slice-2.ensures
    ∙ ap (λ (h : Held). sync_logged c.args.closed.now.changes.items (kept_of h)) c.pool.view_is)

pub seal_of-seal-requires-clause-few : goal.seal_of-seal-requires-clause-few
seal_of-seal-requires-clause-few g c =
    let placed = rw c.in-Some.is at c.in_ok-parts.ensures.placed in
    let here = subst (λ (h : Held). ArePlaced h.used (closed_of c.args.closed.now).contents
    (records_in c.as_slice-slots.result.now c.sync_table.new.table) c.in-Some.parts.items) c.pool.view_is
    (subst (λ cs. ArePlaced c.pool.inside.book.used cs (records_in c.as_slice-slots.result.now c.sync_table.new.table)
    c.in-Some.parts.items) (ap (map stored_of) c.as_slice-contents.ensures) placed) in
    few_homes c.args.pool.now c.requires.sound (closed_of c.args.closed.now).contents c.as_slice-slots.result.now c.sync_table.new.table
    c.in-Some.parts.items here (closed_of c.args.closed.now).log
    (c.in_ok-sync_table.ensures.kept ∙ ap (λ l. sync_logged l c.pool.inside.table) c.as_slice-2.ensures
    ∙ ap (λ (h : Held). sync_logged c.args.closed.now.changes.items (kept_of h)) c.pool.view_is)

pub seal_of-seal-requires-clause-counts : goal.seal_of-seal-requires-clause-counts
seal_of-seal-requires-clause-counts g c =
    found_small c.args.pool.now.sectors (c.args.pool.now.group + 1) c.sync_table.new.table.table
    (table_within_after c.args.pool.now (closed_of c.args.closed.now) c.requires.sound c.requires.range c.sync_table.new.table
    (c.in_ok-sync_table.ensures.kept ∙ ap (λ l. sync_logged l c.pool.inside.table) c.as_slice-2.ensures
    ∙ ap (λ (h : Held). sync_logged c.args.closed.now.changes.items (kept_of h)) c.pool.view_is))

pub used_after-requires-clause-slots : goal.used_after-requires-clause-slots
used_after-requires-clause-slots g c =
    subst (λ (s : List SlotRecord). AllByRecursion (λ slot. IsKeyLength slot.pointer.key.len) s)
    (sym (c.as_slice-slots.ensures.value ∙ c.in_ok-listed.ensures))
    (slot_lengths_after c.args.pool.now (closed_of c.args.closed.now) c.requires.sound c.requires.range c.set_slots.new.slots
    (c.in_ok-set_slots.ensures ∙ ap (λ l. slots_after l c.pool.inside.slots) c.as_slice.ensures
    ∙ ap (λ (h : Held). slots_after c.args.closed.now.slots.items h.slots) c.pool.view_is))

pub returns-clause-planned : goal.returns-clause-planned
returns-clause-planned g c =
    let kept : c.sync_table.new.table ≡ sync_logged c.args.closed.now.changes.items (kept_of c.args.pool.now) =
    c.in_ok-sync_table.ensures.kept ∙ ap (λ l. sync_logged l c.pool.inside.table) c.as_slice-2.ensures
    ∙ ap (λ (h : Held). sync_logged c.args.closed.now.changes.items (kept_of h)) c.pool.view_is in
    let slots : c.set_slots.new.slots ≡ slots_after c.args.closed.now.slots.items c.args.pool.now.slots =
    c.in_ok-set_slots.ensures ∙ ap (λ l. slots_after l c.pool.inside.slots) c.as_slice.ensures
    ∙ ap (λ (h : Held). slots_after c.args.closed.now.slots.items h.slots) c.pool.view_is in
    let listed : c.as_slice-slots.result.now ≡ c.set_slots.new.slots = c.as_slice-slots.ensures.value ∙ c.in_ok-listed.ensures in
    let contents = (closed_of c.args.closed.now).contents in
    let placed = subst (λ (s : List SlotRecord). ArePlaced c.args.pool.now.used contents (records_in s c.sync_table.new.table)
    c.in-Some.parts.items) listed
    (subst (λ (h : Held). ArePlaced h.used contents (records_in c.as_slice-slots.result.now c.sync_table.new.table) c.in-Some.parts.items)
    c.pool.view_is
    (subst (λ cs. ArePlaced c.pool.inside.book.used cs (records_in c.as_slice-slots.result.now c.sync_table.new.table)
    c.in-Some.parts.items) (ap (map stored_of) c.as_slice-contents.ensures) (rw c.in-Some.is at c.in_ok-parts.ensures.placed))) in
    let pages : c.in_ok-pages.pages.items ≡ places_in c.in-Some.parts.items =
    c.in_ok-pages.ensures ∙ ap places_in c.as_slice-3.ensures.value in
    let keys : c.seal_of-seal.result.homes ≡ length (counted_homes c.sync_table.new.table.table) =
    ap (λ (s : Seal). s.homes) (c.seal_of-seal.ensures.fields []) in
    let totals : c.sync_table.new.totals ≡ totals_in (counted_homes c.sync_table.new.table.table) =
    c.in_ok-sync_table.ensures.totals (subst (λ (h : Held). IsTable h.table) (sym c.pool.view_is) c.requires.sound.sorted)
    (subst (λ (h : Held). h.totals ≡ totals_in (counted_homes h.table)) (sym c.pool.view_is) c.requires.sound.totals_are) in
    let few = few_homes c.args.pool.now c.requires.sound contents c.set_slots.new.slots c.sync_table.new.table c.in-Some.parts.items placed
    c.args.closed.now.changes.items kept in
    let used : AreUsed c.args.pool.now.sectors c.in_ok-pages.pages.items c.set_slots.new.slots c.sync_table.new.table.table
    c.of_used.result.used = λ modes quota group.
    c.of_used.ensures.used
    ∙ c.in_ok-used.ensures c.sync_table.new.table.table (c.as_slice-6.ensures.value ∙ c.in_ok-homes.ensures)
    (lengths_after c.args.pool.now (closed_of c.args.closed.now) c.requires.sound c.requires.range c.sync_table.new.table kept)
    modes quota group
    ∙ ap (λ (h : Held). used_sectors h.sectors c.as_slice-5.result.now
    (pool_after [] [] c.as_slice-slots.result.now c.sync_table.new.table.table modes quota group) c.sync_table.new.table.table)
    c.pool.view_is
    ∙ ap (λ (ps : List ℕ). used_sectors c.args.pool.now.sectors ps
    (pool_after [] [] c.as_slice-slots.result.now c.sync_table.new.table.table modes quota group) c.sync_table.new.table.table)
    c.as_slice-5.ensures
    ∙ ap (λ (s : List SlotRecord). used_sectors c.args.pool.now.sectors c.in_ok-pages.pages.items
    (pool_after [] [] s c.sync_table.new.table.table modes quota group) c.sync_table.new.table.table) listed in
    let pending : c.of_used.result.pending ≡ replicate c.args.pool.now.sectors false =
    c.of_used.ensures.pending
    ∙ ap (λ n. replicate n false)
    (sym (ap (λ (l : List Bool). length l) c.of_used.ensures.used)
    ∙ ap (λ (l : List Bool). length l) (used c.args.closed.now.modes c.args.closed.now.quota 0)
    ∙ length-used_sectors c.args.pool.now.sectors c.in_ok-pages.pages.items
    (pool_after [] [] c.set_slots.new.slots c.sync_table.new.table.table c.args.closed.now.modes c.args.closed.now.quota 0)
    c.sync_table.new.table.table) in
    is_plan c.args.pool.now (closed_of c.args.closed.now) c.set_slots.new.slots c.sync_table.new.table c.in-Some.parts.items
    c.in_ok-pages.pages.items c.seal_of-seal.result _ slots kept placed pages
    (λ roots. c.seal_of-seal.ensures.fields roots
    ∙ ap (λ (h : Held). seal_of h.tag h.sectors (h.group + 1) c.args.closed.now.modes c.args.closed.now.quota c.sync_table.new.table roots
    c.len.result) c.pool.view_is
    ∙ ap (λ n. seal_of c.args.pool.now.tag c.args.pool.now.sectors (c.args.pool.now.group + 1) c.args.closed.now.modes
    c.args.closed.now.quota c.sync_table.new.table roots n) c.len.ensures)
    c.seal_of-seal.ensures.pointers
    (record {
      slots_are = refl;
      kept_is = refl;
      keys_are = keys;
      keys_few = omega
          (arith, keys, few, length-filter-le (λ (e : Entry). nat_lt 0 e.home.count) (entries_found c.sync_table.new.table.table));
      totals_are = totals;
      pages_are = refl;
      used_are = used;
      pending_are = pending;
      modes_are = refl;
      quota_is = refl;
      tag_is = ap (λ (h : Held). h.tag) c.pool.view_is;
      group_is = ap (λ (h : Held). h.group + 1) c.pool.view_is;
      sectors_are = ap (λ (h : Held). h.sectors) c.pool.view_is;
    })
    (subst (λ (s : List SlotRecord). AllByRecursion FitsSlot s) listed c.slots_fit.ensures)
    c.in_ok-parts.ensures.fit
