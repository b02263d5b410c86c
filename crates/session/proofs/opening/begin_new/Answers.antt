-- Why no pool was made, and what a crash leaves then.
use Rattle.std.proofs.Common.{rules}
use Rattle.std.specs.Prelude.{IsErrOf}
use Rattle.session.specs.StageMaking.{MakeCause}
use Rattle.session.specs.declared.status.Status.{Status}
use Rattle.session.proofs.Causes.{make_ends}
use Rattle.session.proofs.Opened.{not_made_at, not_made_sized}
use Rattle.session.proofs.opening.begin_new.Goals as goal

pub returns-in_err-pool-clause-opened : goal.returns-in_err-pool-clause-opened
returns-in_err-pool-clause-opened g c image told =
    not_made_at (g.D.Disk.state c.args.disk.now) (g.D.Disk.state c.make_pool.new.disk) (g.K.KeyOf.keying c.args.keyer.now).tag image
    c.from_residual.result c.args.session.now.sealed (search rules) c.requires.new (search rules)

pub returns-in_err-pool-clause-ended : goal.returns-in_err-pool-clause-ended
returns-in_err-pool-clause-ended g c status is =
    let causes : (status : Status) → IsErrOf c.from_residual.result status
    → MakeCause status (g.D.Disk.state c.args.disk.now) (g.D.Disk.state c.make_pool.new.disk)
    = search rules in
    make_ends (g.D.Disk.state c.args.disk.now) (g.D.Disk.state c.make_pool.new.disk) (g.K.KeyOf.keying c.args.keyer.now).tag
    c.args.session.now.sealed c.requires.new status (causes status is)

pub returns-in_err-pool-clause-unlawful : goal.returns-in_err-pool-clause-unlawful
returns-in_err-pool-clause-unlawful g c unlawful =
    let causes : (status : Status) → IsErrOf c.from_residual.result status
    → MakeCause status (g.D.Disk.state c.args.disk.now) (g.D.Disk.state c.make_pool.new.disk)
    = search rules in
    not_made_sized (g.D.Disk.state c.args.disk.now) (g.D.Disk.state c.make_pool.new.disk) c.from_residual.result (search rules) causes
    unlawful
