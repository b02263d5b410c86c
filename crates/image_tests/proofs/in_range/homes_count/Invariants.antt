use Rattle.std.specs.List.{AllWithin}
use Rattle.image_tests.specs.Counts.{StaysAtMost}
use Rattle.image_tests.proofs.in_range.homes_count.Given as goal

abbrev pub invariant-homes : goal.invariant-homes
invariant-homes l = AllWithin (StaysAtMost l.most l.changes) l.homes 0 l.entry-index
