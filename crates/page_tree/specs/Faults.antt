-- How the faults of reading pages are told by what also needs memory.
use Rattle.page_tree.specs.declared.fault.FindFault.{FindFault}
use Rattle.page_tree.specs.declared.fault.FindFault.TheVariants as found
use Rattle.page_tree.specs.declared.fault.PageFault.{PageFault}
use Rattle.page_tree.specs.declared.fault.PageFault.TheVariants as told

-- the same fault
abbrev pub page_fault_of : FindFault → PageFault
page_fault_of found.ReadFault = told.ReadFault
page_fault_of (found.Damaged sector) = told.Damaged sector
