use Rattle.std.specs.List.{AllWithin}
use Rattle.table_state.specs.Tables.{HasLength}
use Rattle.image_tests.proofs.in_range.have_lengths.Given as goal

abbrev pub invariant-changes : goal.invariant-changes
invariant-changes l = AllWithin HasLength l.log 0 l.change-index
