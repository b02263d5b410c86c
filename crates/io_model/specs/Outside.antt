-- What a call of the outside may leave: of a count of faults, of the bytes left to read, of the bytes written.
use Rattle.std.specs.Prelude.{◌≡◌, ℕ, ◌≤◌, List, length, take, drop, Option, Result, MatchResult}
use Rattle.std.specs.Io.KnownBytes.{Appends, Consumes, IsAtEnd}
pub use Rattle.disk_model.specs.Faults.{Rose, HasCause}

-- behind the bytes that a read gave the buffer is as it was, and all of it where the read failed
abbrev pub KeepsBehind : {E : Type 0} → Result ℕ E → List ℕ → List ℕ → Type 0
KeepsBehind result old new = MatchResult result (λ n. drop n new ≡ drop n old) (λ _. new ≡ old)

-- some front of the text was taken
abbrev pub TookFront : Option (List ℕ) → Option (List ℕ) → List ℕ → Type 0
TookFront old new text = (n : ℕ) × (n ≤ length text) × Appends old new (take n text)

-- these bytes were read, and nothing is left
abbrev pub HasRead : Option (List ℕ) → Option (List ℕ) → List ℕ → Type 0
HasRead old new bytes = Consumes old new bytes × IsAtEnd new

-- at most this many bytes were read
abbrev pub ConsumesUpTo : Option (List ℕ) → Option (List ℕ) → ℕ → Type 0
ConsumesUpTo old new most = (bytes : List ℕ) × (length bytes ≤ most) × Consumes old new bytes
