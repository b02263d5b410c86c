use Rattle.std.specs.List.{AllWithin}
use Rattle.ddt_entry.specs.Spelling.{Fits}
use Rattle.txg_sync.proofs.fits.changes_fit.Given as goal

abbrev pub invariant-changes : goal.invariant-changes
invariant-changes l = AllWithin Fits l.changes 0 l.change-index
