-- What an import tells of a fault of its reading.
use Rattle.std.specs.Prelude.{Result, Ok, Err}
use Rattle.page_tree.specs.declared.fault.PageFault.{PageFault}
use Rattle.page_tree.specs.declared.fault.PageFault.TheVariants as pages
use Rattle.pool_model.specs.declared.faults.SyncFault.{SyncFault}
use Rattle.pool_model.specs.declared.faults.SyncFault.TheVariants as syncs

abbrev pub sync_fault_of : PageFault → SyncFault
sync_fault_of pages.ReadFault = syncs.ReadFault
sync_fault_of (pages.Damaged sector) = syncs.Damaged sector
sync_fault_of pages.Memory = syncs.Memory

-- the same answer with such a fault
abbrev pub told_of : {T : Type 0} → Result T PageFault → Result T SyncFault
told_of (Ok found) = Ok found
told_of (Err fault) = Err (sync_fault_of fault)
