-- The bytes at a place, as a contract sees them.
use Rattle.std.specs.Prelude.{ℕ, List}
use Rattle.pool_model.specs.Pool.{Pointer}

pub record Placed : Type 0 where
  pub place : ℕ
  pub content : List ℕ

-- a pointer's bytes at its place
abbrev pub placed_of : Pointer → Placed
placed_of p = record { place = p.place; content = p.content }
