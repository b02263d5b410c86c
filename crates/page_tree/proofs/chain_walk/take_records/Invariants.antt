use Rattle.std.proofs.Common.{◌≡◌, ◌≤◌, ◌+◌, ◌-◌, ◌*◌, ◌++◌, drop}
use Rattle.page_tree.specs.Chains.{record_len, parts_in}
use Rattle.page_tree.proofs.chain_walk.take_records.Given as goal

abbrev pub invariant-records : goal.invariant-records
invariant-records l =
    (l.out.items ++ parts_in (l.count - l.i) record_len (drop (48 + 72 * l.i) l.page) ≡ l.fn.out.items ++ parts_in l.count record_len
    (drop 48 l.page))
    × (l.count - l.i ≤ l.out.spare) × (l.count ≤ 56)
