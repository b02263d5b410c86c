-- A plain program's pool as the definitions see it.
use Rattle.pool_model.specs.Pool.{Pool}
use Rattle.plain_pool.specs.declared.pool.PlainPool.TheInside.{Inside}

abbrev pub pool_of : Inside → Pool
pool_of pool = record { pointers = pool.pointers.items; modes = pool.modes; quota = pool.quota; group = pool.group }
