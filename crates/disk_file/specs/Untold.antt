-- What a disk in a file tells: how many sectors it has and how many calls failed, and nothing of contents.
use Rattle.std.specs.Prelude.{◌≡◌, ℕ, None, Result, MatchResult}
use Rattle.disk_model.specs.DiskLaws.{IsImage}
use Rattle.disk_model.specs.Crashes.{DiskState}
use Rattle.disk_model.specs.Faults.{one_more}

-- how many sectors there are, how many calls of `meter`, `write` and `barrier` failed, and how many reads, as far as their
-- meters were retired
pub record Counts : Type 0 where
  pub sectors : ℕ
  pub write_faults : ℕ
  pub read_faults : ℕ

-- a crash at any moment may leave any whole sectors
abbrev pub untold : Counts → DiskState
untold disk = record {
  sectors = disk.sectors;
  seen = None;
  may_leave = IsImage disk.sectors;
  clock = 0;
  left_since = λ (since : ℕ). IsImage disk.sectors;
  write_faults = disk.write_faults;
  read_faults = disk.read_faults;
}

-- a disk of so many sectors of which no call has failed yet
abbrev pub new_counts : (sectors : ℕ) → Counts
new_counts sectors = record { sectors = sectors; write_faults = 0; read_faults = 0 }

-- after one more call of `meter`, `write` or `barrier` failed
abbrev pub faulted : Counts → Counts
faulted disk = record disk { write_faults = one_more disk.write_faults }

-- a call that was done changes no count, and one that failed is counted
abbrev pub IsCounted : {T E : Type 0} → (old new : Counts) → Result T E → Type 0
IsCounted old new result = MatchResult result (λ _. new ≡ old) (λ _. new ≡ faulted old)
