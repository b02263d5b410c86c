use Rattle.std.proofs.Common.{◌≡◌, IfOk, subst, sym, ap, ◌∙◌, List}
use Rattle.pool_model.specs.Stats.{stats_of}
use Rattle.pool_model.specs.declared.stats.Stats.{Stats}
use Rattle.pool_stats.specs.Counts.{stats_in, key_counts, tracked_keys}
use Rattle.pool_stats.specs.declared.reference.Reference.{Reference}
use Rattle.pool_stats.proofs.Bounds.{AreFew-key_counts}
use Rattle.pool_stats.proofs.Pools.{stats_in-pool}
use Rattle.pool_stats.proofs.totals.stats.Goals as goal

pub stats_in-requires-clause-few : goal.stats_in-requires-clause-few
stats_in-requires-clause-few c = rw (c.as_slice.ensures.value, c.in_ok-counts.ensures) (AreFew-key_counts c.args.references.now c.requires)

pub returns : goal.returns
returns c pool same =
    let alike : stats_in c.args.references.now c.as_slice.result.now ≡ stats_of pool =
    ap (stats_in c.args.references.now) (c.as_slice.ensures.value ∙ c.in_ok-counts.ensures)
    ∙ ap (λ (references : List Reference). stats_in references (key_counts (tracked_keys references))) (sym same)
    ∙ stats_in-pool pool
    in
    subst (λ (what : Stats). IfOk c.stats_in.result (λ stats. stats ≡ what)) alike c.stats_in.ensures
