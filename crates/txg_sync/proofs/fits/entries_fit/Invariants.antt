use Rattle.std.specs.List.{AllWithin}
use Rattle.ddt_entry.specs.Spelling.{Fits}
use Rattle.ddt_entry.specs.declared.entry.Change.TheVariants.{Entry as AnEntry}
use Rattle.txg_sync.proofs.fits.entries_fit.Given as goal

abbrev pub invariant-entries : goal.invariant-entries
invariant-entries l = AllWithin (λ entry. Fits (AnEntry entry)) l.entries 0 l.entry-index
