use Rattle.std.proofs.Common.{◌≡◌, IfOk, subst, ap, ◌∙◌, List}
use Rattle.pool_stats.specs.Counts.{tracked_keys, key_counts, runs_of}
use Rattle.pool_stats.specs.declared.counts.KeyCount.{KeyCount}
use Rattle.pool_stats.proofs.Runs.{runs_of-sorted}
use Rattle.pool_stats.proofs.counts.key_counts.Goals as goal

pub returns : goal.returns
returns c =
    let alike : runs_of c.as_slice.result.now ≡ key_counts (tracked_keys c.args.references.now) =
    ap runs_of c.as_slice.ensures.value
    ∙ runs_of-sorted c.in_ok-keys.keys.items c.sort_unstable.new.self.items c.sort_unstable.ensures.permutation
    c.sort_unstable.ensures.sorted
    ∙ ap key_counts c.in_ok-keys.ensures
    in
    subst (λ (what : List KeyCount). IfOk c.runs_of.result (λ counts. counts.items ≡ what)) alike c.runs_of.ensures
