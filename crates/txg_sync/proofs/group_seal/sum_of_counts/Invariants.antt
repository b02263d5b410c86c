use Rattle.std.proofs.Common.{◌≡◌, ◌*◌, ◌≤◌, take, sum_by}
use Rattle.txg_sync.proofs.group_seal.sum_of_counts.Given as goal

abbrev pub invariant-entries : goal.invariant-entries
invariant-entries l = (l.sum ≡ sum_by (λ entry. entry.home.count) (take l.entry-index l.entries)) × (l.sum ≤ 1048576 * l.entry-index)
