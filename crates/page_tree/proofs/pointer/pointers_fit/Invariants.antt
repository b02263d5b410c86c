use Rattle.std.specs.List.{AllWithin}
use Rattle.page_tree.specs.Pointers.{FitsPointer}
use Rattle.page_tree.proofs.pointer.pointers_fit.Given as goal

abbrev pub invariant-pointers : goal.invariant-pointers
invariant-pointers l = AllWithin FitsPointer l.pointers 0 l.pointer-index
