use Rattle.std.proofs.Common.{◌≡◌, ◌-◌, ◌++◌, length}
use Rattle.ddt_entry.specs.Bytes.{zeros}
use Rattle.page_tree.proofs.front.pad_to.Given as goal

abbrev pub invariant-zeros : goal.invariant-zeros
invariant-zeros g l =
    (l.front.items ≡ l.initial.front.items ++ zeros (l.counter - length l.initial.front.items)) × (length l.front.items ≡ l.counter)
