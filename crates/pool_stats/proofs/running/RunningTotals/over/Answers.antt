use Rattle.std.proofs.Common.{◌∙◌, rules, sym, ap, take}
use Rattle.std.proofs.lemmas.List.{take_more}
use Rattle.pool_stats.specs.Totals.{totals_in, totals_moved}
use Rattle.pool_stats.proofs.HomeSums.{totals_pushed}
use Rattle.pool_stats.proofs.running.RunningTotals.over.Goals as goal

pub homes-preserved : goal.homes-preserved
homes-preserved c =
    c.change.ensures ∙ ap (totals_moved _ 0 _) c.homes.invariant
    ∙ sym (totals_pushed (take c.homes.entry-index c.args.homes.now) _)
    ∙ ap totals_in (sym (take_more c.args.homes.now c.homes.entry-index _ c.homes-test.true))
