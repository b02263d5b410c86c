use Rattle.std.proofs.Common.{◌≡◌, ◌*◌, length, take}
use Rattle.std.specs.List.{flat_map}
use Rattle.page_tree.specs.Pointers.{pointer_bytes}
use Rattle.uber_ring.proofs.body.pointers_of.Given as goal

abbrev pub invariant-pointers : goal.invariant-pointers
invariant-pointers l =
    (l.front.items ≡ flat_map pointer_bytes (take l.pointer-index l.pointer-items))
    × (length l.front.items ≡ 40 * l.pointer-index)
