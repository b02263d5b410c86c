-- The pool that was found is the one that is opened.
use Rattle.std.proofs.Common.{ap, refl, rules}
use Rattle.std.specs.Prelude.{IsErrOf}
use Rattle.table_state.specs.Pools.{Held}
use Rattle.session.specs.StageFinding.{FindCause}
use Rattle.session.specs.StageOpening.{EndsOpening}
use Rattle.session.specs.declared.status.Status.{Status}
use Rattle.session.specs.declared.status.Status.TheVariants.{BadSize, LastGroup}
use Rattle.session.specs.declared.words.Word.TheVariants.{Run}
use Rattle.session.proofs.Causes.{find_ends, of_status}
use Rattle.session.proofs.Opened.{is_open, last_group_cause, not_found_at, too_late}
use Rattle.session.proofs.opening.take_up.Goals as goal

pub returns-in_err-pool-clause-opened : goal.returns-in_err-pool-clause-opened
returns-in_err-pool-clause-opened g c image told =
    not_found_at (g.D.Disk.state c.args.disk.now) (g.D.Disk.state c.find_pool.new.disk) (g.K.KeyOf.keying c.args.keyer.now).tag image
    (c.find_pool.ensures.left image told) c.from_residual.result c.args.session.now.sealed (search rules) c.requires.new

pub returns-in_err-pool-clause-ended : goal.returns-in_err-pool-clause-ended
returns-in_err-pool-clause-ended g c status is =
    let causes : (status : Status) → IsErrOf c.from_residual.result status
    → FindCause status (g.K.KeyOf.keying c.args.keyer.now).tag (g.D.Disk.state c.args.disk.now) (g.D.Disk.state c.find_pool.new.disk)
    = search rules in
    find_ends (g.K.KeyOf.keying c.args.keyer.now).tag (g.D.Disk.state c.args.disk.now) (g.D.Disk.state c.find_pool.new.disk)
    c.args.session.now.sealed c.requires.new status (causes status is)

pub returns-in_err-pool-clause-sized : goal.returns-in_err-pool-clause-sized
returns-in_err-pool-clause-sized g c n is =
    let causes : (status : Status) → IsErrOf c.from_residual.result status
    → FindCause status (g.K.KeyOf.keying c.args.keyer.now).tag (g.D.Disk.state c.args.disk.now) (g.D.Disk.state c.find_pool.new.disk)
    = search rules in
    absurd (causes (BadSize n) is)

pub returns-then-pool-gt-LAST_START-clause-opened : goal.returns-then-pool-gt-LAST_START-clause-opened
returns-then-pool-gt-LAST_START-clause-opened g c image told =
    too_late (g.D.Disk.state c.args.disk.now) (g.D.Disk.state c.find_pool.new.disk) (g.K.KeyOf.keying c.args.keyer.now).tag image
    (c.find_pool.ensures.left image told) c.in_ok-pool.pool c.pool.inside.sealed (c.in_ok-pool.ensures.found image told)
    (ap (λ (h : Held). h.group) c.pool.view_is)

pub returns-then-pool-gt-LAST_START-clause-ended : goal.returns-then-pool-gt-LAST_START-clause-ended
returns-then-pool-gt-LAST_START-clause-ended g c status is =
    of_status
    (λ end. EndsOpening end Run (g.K.KeyOf.keying c.args.keyer.now).tag (g.D.Disk.state c.args.disk.now)
    (g.D.Disk.state c.find_pool.new.disk) c.pool.inside.sealed)
    (LastGroup c.pool.inside.sealed) status is
    (record {
      may = refl;
      cause = last_group_cause (g.D.Disk.state c.args.disk.now) (g.D.Disk.state c.find_pool.new.disk)
          (g.K.KeyOf.keying c.args.keyer.now).tag c.in_ok-pool.pool c.pool.inside.sealed (ap (λ (h : Held). h.group) c.pool.view_is)
          (search rules) c.in_ok-pool.ensures.found;
      sealed_is = refl;
    })

pub returns-clause-opened : goal.returns-clause-opened
returns-clause-opened g c image told =
    is_open (g.D.Disk.state c.args.disk.now) (g.D.Disk.state c.find_pool.new.disk) (g.K.KeyOf.keying c.args.keyer.now).tag image
    (c.find_pool.ensures.left image told) c.in_ok-pool.pool (c.in_ok-pool.ensures.found image told) (search rules)
