use Rattle.std.specs.List.{AllWithin}
use Rattle.table_state.specs.Sealed.{ChangesSlotWithin}
use Rattle.image_tests.proofs.in_range.slots_within.Given as goal

abbrev pub invariant-slots : goal.invariant-slots
invariant-slots l = AllWithin (ChangesSlotWithin l.sectors l.group) l.changes 0 l.change-index
