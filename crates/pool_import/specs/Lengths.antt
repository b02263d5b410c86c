-- The lengths of the keys that a flat image names.
use Rattle.std.specs.List.{AllByRecursion}
use Rattle.ddt_entry.specs.Spelling.{IsKeyLength}
use Rattle.table_state.specs.Flat.{Flat}
use Rattle.table_state.specs.Tables.{HasLength}

-- each of them is one that a key can have
pub record HasLengths (flat : Flat) : Type 0 where
  pub unique : AllByRecursion (λ entry. IsKeyLength entry.key.len) flat.unique
  pub duplicate : AllByRecursion (λ entry. IsKeyLength entry.key.len) flat.duplicate
  pub active : AllByRecursion HasLength flat.active
  pub flushing : AllByRecursion HasLength flat.flushing
