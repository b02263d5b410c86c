use Rattle.std.proofs.Common.{◌≡◌, ◌+◌, ◌≤◌, ◌++◌, drop}
use Rattle.pool_stats.specs.Counts.{runs_from}
use Rattle.pool_stats.proofs.counts.runs_of.Given as goal

-- the runs made so far, and those of this run with what is left, are the runs of all
abbrev pub invariant-keys : goal.invariant-keys
invariant-keys l =
    (l.runs.items ++ runs_from l.run.key l.run.count (drop l.key-index l.rest) ≡ runs_from l.initial.run.key 1 l.rest)
    × (l.run.count ≤ l.key-index + 1)
