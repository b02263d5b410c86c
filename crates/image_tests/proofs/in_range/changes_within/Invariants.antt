use Rattle.std.specs.List.{AllWithin}
use Rattle.table_state.specs.Flat.{IsChangeWithin}
use Rattle.image_tests.proofs.in_range.changes_within.Given as goal

abbrev pub invariant-changes : goal.invariant-changes
invariant-changes l = AllWithin (IsChangeWithin l.sectors l.group) l.log 0 l.change-index
