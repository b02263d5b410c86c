-- What a call that writes a text leaves of the sink.
use Rattle.std.specs.Prelude.{ℕ, List, Option, Result, OnOk, OnErr}
use Rattle.std.specs.Io.KnownBytes.{Appends}
use Rattle.io_model.specs.Outside.{HasCause, TookFront}

-- the whole text was written, or after a failure some front of it
pub record Wrote {T E : Type 0} (old new : Option (List ℕ)) (before now : ℕ) (text : List ℕ) (result : Result T E) : Type 0 where
  pub all : OnOk result (Appends old new text)
  pub front : OnErr result (TookFront old new text)
  pub cause : HasCause before now result
