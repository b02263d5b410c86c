-- The kept numbers are those of the counted homes and of the slots.
use Rattle.std.proofs.Common.{◌∙◌, length, ap, subst, sym}
use Rattle.pool_model.specs.Table.{counted_homes}
use Rattle.pool_stats.specs.Totals.{AreHomesOf}
use Rattle.slot_table.specs.Slots.{plain_in}
use Rattle.table_state.specs.Pools.{Held}
use Rattle.table_state.proofs.StatsOf.{homes_of_pool}
use Rattle.table_state.proofs.pool.Pool.stats.Goals as goal

pub returns : goal.returns
returns c image p table is =
    c.stats.ensures p (counted_homes table) (ap (λ (h : Held). h.totals) c.self.view_is ∙ is.totals_are)
    (subst (λ n. AreHomesOf p (counted_homes table) n c.plain.result) (sym (c.len.ensures ∙ ap (λ (h : Held). length h.slots) c.self.view_is))
    (subst (λ n. AreHomesOf p (counted_homes table) (length c.args.self.now.slots) n)
    (sym (c.plain.ensures ∙ ap (λ (h : Held). plain_in h.slots) c.self.view_is)) (homes_of_pool image c.args.self.now p table is)))
