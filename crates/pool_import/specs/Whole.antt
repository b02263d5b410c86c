-- What the whole of an image keeps, beside the parts: the pool that it makes is well-formed and the table matches it, the seal's sums are right, and no block lies on a page.
use Rattle.std.specs.Prelude.{◌≡◌, length, sum_by}
use Rattle.std.specs.List.{AllByRecursion}
use Rattle.disk_model.specs.Images.{Image}
use Rattle.uber_ring.specs.declared.seal.Seal.{Seal}
use Rattle.pool_model.specs.Pool.{IsWellFormed}
use Rattle.pool_model.specs.Table.{Matches, waiting_in, counted_homes}
use Rattle.table_state.specs.Flat.{Flat, table_in, pool_in, IsClear}

pub record IsWhole (image : Image) (seal : Seal) (flat : Flat) : Type 0 where
  pub well_formed : IsWellFormed seal.sectors (pool_in image seal flat)
  pub matches : Matches (pool_in image seal flat) (table_in seal flat)
  pub homes : seal.homes ≡ length (counted_homes (table_in seal flat))
  pub references : seal.counts ≡ sum_by (λ entry. entry.home.count) (counted_homes (table_in seal flat))
  pub pages : seal.pages ≡ length flat.named
  pub pointers_clear : AllByRecursion (λ pointer. IsClear flat.named pointer.place) (pool_in image seal flat).pointers
  pub waiting_clear : AllByRecursion (λ entry. IsClear flat.named entry.home.place) (waiting_in (table_in seal flat))
