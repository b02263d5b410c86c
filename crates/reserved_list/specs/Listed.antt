-- What a contract sees of a list with reserved room.
use Rattle.std.specs.Prelude.{ℕ, List}

-- the items in their order, and how many more can be pushed without asking for memory
pub record Listed (T : Type 0) : Type 0 where
  pub items : List T
  pub spare : ℕ
