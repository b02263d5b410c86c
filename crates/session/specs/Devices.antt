-- What a session's call is given from outside, before and after it.
use Rattle.std.specs.Prelude.{ℕ, List, Option}
use Rattle.disk_model.specs.Crashes.{DiskState}

-- the disk, and the output: the bytes written, where it tells them, and its count of faults
pub record Devices : Type 1 where
  pub before : DiskState
  pub after : DiskState
  pub written : Option (List ℕ)
  pub now : Option (List ℕ)
  pub sink_before : ℕ
  pub sink_now : ℕ

-- the source: the bytes that are left to read, where it tells them, and its count of faults
pub record Input : Type 0 where
  pub left : Option (List ℕ)
  pub rest : Option (List ℕ)
  pub faults_before : ℕ
  pub faults_now : ℕ

abbrev pub between : (before after : DiskState) → (written now : Option (List ℕ)) → (sink_before sink_now : ℕ) → Devices
between before after written now sink_before sink_now =
    record { before = before; after = after; written = written; now = now; sink_before = sink_before; sink_now = sink_now }

abbrev pub reading : (left rest : Option (List ℕ)) → (faults_before faults_now : ℕ) → Input
reading left rest faults_before faults_now = record { left = left; rest = rest; faults_before = faults_before; faults_now = faults_now }
