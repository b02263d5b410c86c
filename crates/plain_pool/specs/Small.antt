-- Pools for whose reports 64 bits are enough.
use Rattle.std.specs.Prelude.{◌^◌, ◌≤◌, length, All}
use Rattle.pool_model.specs.Pool.{Pool}

-- few enough pointers, and keys short enough
pub record IsSmall (pool : Pool) : Type 0 where
  pub few : length pool.pointers ≤ 2 ^ 20
  pub short : All (λ p. p.key.len ≤ 4096) pool.pointers
