-- What contracts see of a reader or a writer of std that serves as a source or a sink.
use Rattle.std.specs.Prelude.{ℕ}

-- the reader or the writer, and how many calls failed
pub record Adapted (S : Type 0) : Type 0 where
  pub stream : S
  pub faults : ℕ
