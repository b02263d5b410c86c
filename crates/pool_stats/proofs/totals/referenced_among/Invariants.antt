use Rattle.std.proofs.Common.{◌≡◌, ◌*◌, ◌≤◌, take, sum_by, filter}
use Rattle.pool_stats.specs.References.{is_tracked}
use Rattle.pool_stats.proofs.totals.referenced_among.Given as goal

abbrev pub invariant-references : goal.invariant-references
invariant-references l =
    (l.bytes ≡ sum_by (λ reference. reference.key.len)
    (filter (λ reference. is_tracked reference.standing) (take l.reference-index l.references)))
    × (l.bytes ≤ 4096 * l.reference-index)
