-- The seal that counts is the one that was found.
use Rattle.std.proofs.Common.{rules}
use Rattle.pool_import.proofs.Sealing.{damaged_by, held_by}
use Rattle.pool_import.proofs.sealed.find_pool.Goals as goal

pub returns-in_err-pool-clause-damaged : goal.returns-in_err-pool-clause-damaged
returns-in_err-pool-clause-damaged g c sector fault =
    damaged_by c.args.tag c.in-Some.seal (g.D.Disk.state c.args.disk.now).seen c.in-Ok.found c.in-Ok.ensures.found c.in-Some.is
    (c.sealed_pool.ensures.damaged sector (search rules))

pub returns-clause-pool : goal.returns-clause-pool
returns-clause-pool g c =
    held_by c.args.tag c.in-Some.seal (g.D.Disk.state c.args.disk.now).seen c.in-Ok.found c.in_ok-pool.pool c.in-Ok.ensures.found
    c.in-Some.is c.in_ok-pool.ensures.pool
