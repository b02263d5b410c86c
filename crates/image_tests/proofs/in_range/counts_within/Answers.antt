-- The table and the slots are those of the pool, and the changes those of the group.
use Rattle.std.proofs.Common.{◌≡◌, ◌∙◌, ◌≤◌, ap, length, subst}
use Rattle.pool_model.specs.Table.{TableState, found, sync_table}
use Rattle.table_state.specs.Pools.{Held, slots_after}
use Rattle.image_tests.proofs.in_range.counts_within.Goals as goal

pub returns : goal.returns
returns c all key home there =
    let tables : sync_table c.as_slice-2.result.now c.pool.inside.table.table ≡ sync_table c.args.closed.now.changes.items c.args.pool.now.table =
    ap (λ l. sync_table l c.pool.inside.table.table) c.as_slice-2.ensures
    ∙ ap (λ (h : Held). sync_table c.args.closed.now.changes.items h.table) c.pool.view_is in
    let most : c.in_ok-most.most ≡ length (slots_after c.args.closed.now.slots.items c.args.pool.now.slots) =
    c.in_ok-most.ensures ∙ ap (λ l. length (slots_after l c.pool.inside.slots)) c.as_slice.ensures
    ∙ ap (λ (h : Held). length (slots_after c.args.closed.now.slots.items h.slots)) c.pool.view_is in
    subst (λ n. home.count ≤ n) most
    (c.in_ok-within.ensures all key home (ap (λ (t : TableState). found t key) tables ∙ there))
