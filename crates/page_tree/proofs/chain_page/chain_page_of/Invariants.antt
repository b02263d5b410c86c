use Rattle.std.proofs.Common.{◌≡◌, ◌+◌, ◌*◌, ◌++◌, drop}
use Rattle.std.specs.List.{concat}
use Rattle.arrayvec.specs.ArrayVec.{array_vec_len}
use Rattle.page_tree.specs.ChainWrites.{chain_head}
use Rattle.page_tree.proofs.chain_page.chain_page_of.Given as goal

abbrev pub invariant-records : goal.invariant-records
invariant-records l =
    (l.front.items ++ concat (drop l.record-index l.records) ≡ chain_head
    (record { next = l.next; records = l.records }) ++ concat l.records)
    × (array_vec_len l.front ≡ 48 + 72 * l.record-index)
