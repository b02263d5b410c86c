use Rattle.std.proofs.Common.{◌≡◌, ◌+◌, ◌≤◌, nat_lt, drop, filter, length}
use Rattle.txg_sync.proofs.group_seal.counted_in.Given as goal

abbrev pub invariant-entries : goal.invariant-entries
invariant-entries l =
    (l.counted + length (filter (λ entry. nat_lt 0 entry.home.count) (drop l.entry-index l.entries))
    ≡ length (filter (λ entry. nat_lt 0 entry.home.count) l.entries))
    × (l.counted ≤ l.entry-index)
