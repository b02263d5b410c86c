-- What was made is what is told of.
use Rattle.std.proofs.Common.{Err, None, [], ap, refl, subst}
use Rattle.session.specs.StageMaking.{IsNewPool, Makes}
use Rattle.session.proofs.Causes.{sized_so}
use Rattle.session.proofs.Looked.{creates, creates_nothing, made_cause}
use Rattle.session.proofs.looking.create_pool.Goals as goal

pub returns-in-Ok-clause-created : goal.returns-in-Ok-clause-created
returns-in-Ok-clause-created g c image told =
    creates _ _ (g.K.KeyOf.keying c.args.keyer.now).tag image _ _ _ _ c.in-Ok._pool
    (subst (λ t. IsNewPool (g.D.Disk.state c.args.disk.now) (g.D.Disk.state c.make_pool.new.disk) t image c.in-Ok._pool) c.tag.ensures
    (c.in-Ok.ensures.made image told))
    c.write_text.result c.write_text.ensures.cause c.write_text.ensures.text

pub returns-in-Err-clause-created : goal.returns-in-Err-clause-created
returns-in-Err-clause-created g c image told =
    creates_nothing _ _ (g.K.KeyOf.keying c.args.keyer.now).tag image _ None _ _ c.in-Err.status
    (c.in-Err.ensures.cause c.in-Err.status refl)
    (subst (λ t. Makes (g.D.Disk.state c.args.disk.now) (g.D.Disk.state c.make_pool.new.disk) t image (Err c.in-Err.status))
    c.tag.ensures (c.in-Err.ensures.made image told))

pub returns-in-Err-clause-cause : goal.returns-in-Err-clause-cause
returns-in-Err-clause-cause g c = made_cause _ _ _ [] _ _ _ _ c.in-Err.status (c.in-Err.ensures.cause c.in-Err.status refl)

pub returns-in-Err-clause-sized : goal.returns-in-Err-clause-sized
returns-in-Err-clause-sized g c unlawful =
    sized_so _ _ _ unlawful c.in-Err.status (c.in-Err.ensures.cause c.in-Err.status refl)
    (λ n same. (c.in-Err.ensures.sized n (ap Err same), refl))
