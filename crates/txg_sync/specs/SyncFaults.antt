-- How the faults of a sealing are told of a sync, and what a sealing leaves of a disk's size and counts of faults.
use Rattle.std.specs.Prelude.{Result, IsErrOf}
use Rattle.disk_model.specs.Crashes.{DiskState}
use Rattle.disk_model.specs.Accounts.{Keeps}
use Rattle.disk_model.specs.Faults.{Rose}
use Rattle.txg_sync.specs.declared.fault.SealFault.{SealFault}
use Rattle.txg_sync.specs.declared.fault.SealFault.TheVariants as seals
use Rattle.pool_model.specs.declared.faults.SyncFault.{SyncFault}
use Rattle.pool_model.specs.declared.faults.SyncFault.TheVariants as syncs

-- the same fault
abbrev pub sync_fault_of : SealFault → SyncFault
sync_fault_of seals.ReadFault = syncs.ReadFault
sync_fault_of seals.WriteFault = syncs.WriteFault
sync_fault_of seals.GateFault = syncs.GateFault

-- a sealing keeps the size, no count falls, and the count of what failed rose
pub record SealAccounts {T : Type 0} (before now : DiskState) (result : Result T SealFault) : Type 0 where
  pub keeps : Keeps before now
  pub read_cause : IsErrOf result seals.ReadFault → Rose before.read_faults now.read_faults
  pub write_cause : IsErrOf result seals.WriteFault → Rose before.write_faults now.write_faults
  pub gate_cause : IsErrOf result seals.GateFault → Rose before.write_faults now.write_faults
