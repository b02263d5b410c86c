use Rattle.std.proofs.Common.{◌≡◌, None, drop}
use Rattle.pool_import.specs.Together.{rises}
use Rattle.image_tests.specs.Counts.{has_lower}
use Rattle.image_tests.proofs.in_range.are_rising.Given as goal

abbrev pub invariant-changes : goal.invariant-changes
invariant-changes l = rises has_lower l.last (drop l.change-index l.changes) ≡ rises has_lower None l.changes
