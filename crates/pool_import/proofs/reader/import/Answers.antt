-- What was found is of the contents before the call, which the barrier leaves as they are.
use Rattle.std.proofs.Common.{rules}
use Rattle.pool_import.proofs.Sealing.{told_held}
use Rattle.pool_import.proofs.reader.import.Goals as goal

pub returns-clause-pool : goal.returns-clause-pool
returns-clause-pool g c =
    told_held (g.K.KeyOf.keying c.args.keyer.now).tag (g.D.Disk.state c.args.disk.now).seen (g.D.Disk.state c.barrier.new.self).seen
    c.find_pool-answer.result (search rules) (search rules) c.find_pool-answer.ensures.pool c.told.result c.told.ensures
