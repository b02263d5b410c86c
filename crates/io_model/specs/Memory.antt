-- What contracts see of the source and the sink in memory.
use Rattle.std.specs.Prelude.{ℕ, List}
use Rattle.io_model.specs.Calls.{Calls}

-- a source in memory: the bytes that are left, the most that one call gives, and its calls
pub record Supply : Type 0 where
  pub left : List ℕ
  pub piece : ℕ
  pub calls : Calls

-- a sink in memory: the bytes written, and its calls
pub record Kept : Type 0 where
  pub written : List ℕ
  pub calls : Calls
