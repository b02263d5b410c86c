use Rattle.std.specs.List.{AllWithin}
use Rattle.image_tests.specs.Counts.{LeavesAtMost}
use Rattle.image_tests.proofs.in_range.changes_count.Given as goal

abbrev pub invariant-changes : goal.invariant-changes
invariant-changes l = AllWithin (LeavesAtMost l.most) l.log 0 l.change-index
