-- What calls of a disk leave of its size and of its counts of faults.
use Rattle.std.specs.Prelude.{◌≡◌, ◌≤◌, Result, OnErr}
use Rattle.disk_model.specs.Crashes.{DiskState}
use Rattle.disk_model.specs.Faults.{Rose}

-- as many sectors as before, and no count of faults fell
pub record Keeps (before now : DiskState) : Type 0 where
  pub sectors : now.sectors ≡ before.sectors
  pub reads : before.read_faults ≤ now.read_faults
  pub writes : before.write_faults ≤ now.write_faults

-- and the count of faults rose where the call failed
pub record Accounts {T E : Type 0} (before now : DiskState) (result : Result T E) : Type 0 where
  pub keeps : Keeps before now
  pub rose : OnErr result (Rose before.write_faults now.write_faults)
