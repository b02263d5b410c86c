-- What was found is what is told of.
use Rattle.std.proofs.Common.{None, [], refl}
use Rattle.session.proofs.Looked.{found_cause, tells, tells_nothing}
use Rattle.session.proofs.looking.tell_pool.Goals as goal

pub returns-in-Ok-clause-told : goal.returns-in-Ok-clause-told
returns-in-Ok-clause-told g c image told =
    let there = c.in-Ok.ensures.found image told in
    tells _ _ (g.K.KeyOf.keying c.args.keyer.now).tag image _ _ _ _ c.in-Ok.pool c.write_stats.result
    (c.find_pool.ensures.left image told) there (c.write_stats.ensures.told image there.pool there.table there.is_held)

pub returns-in-Err-clause-told : goal.returns-in-Err-clause-told
returns-in-Err-clause-told g c image told =
    tells_nothing _ _ (g.K.KeyOf.keying c.args.keyer.now).tag image _ None _ _ c.in-Err.status
    (c.find_pool.ensures.left image told) (c.in-Err.ensures.cause c.in-Err.status refl)

pub returns-in-Err-clause-cause : goal.returns-in-Err-clause-cause
returns-in-Err-clause-cause g c = found_cause _ _ _ [] _ _ _ _ c.in-Err.status (c.in-Err.ensures.cause c.in-Err.status refl)
