use Rattle.std.specs.List.{AllWithin}
use Rattle.table_state.specs.Spelling.{FitsSlot}
use Rattle.txg_sync.proofs.fits.slots_fit.Given as goal

abbrev pub invariant-slots : goal.invariant-slots
invariant-slots l = AllWithin FitsSlot l.slots 0 l.held-index
