-- A group that was run is sealed, or the session ends in it.
use Rattle.std.proofs.Common.{Err, ap, subst, sym, refl, rules, ◌∙◌}
use Rattle.pool_model.specs.declared.notes.Outcome.TheVariants as outcomes
use Rattle.pool_model.specs.Group.{lanes_in_turn}
use Rattle.pool_model.specs.Plain.{told_of}
use Rattle.table_state.specs.Closing.{closed_of}
use Rattle.session.specs.StageGroups.{GroupCut}
use Rattle.session.specs.declared.status.Status.{Status}
use Rattle.session.proofs.NotedGroups.{noted_as}
use Rattle.session.proofs.Sealing.{sealed_now, cut_now}
use Rattle.session.proofs.group_item.seal_run.Goals as goal

pub returns-in-Ok-clause-went : goal.returns-in-Ok-clause-went
returns-in-Ok-clause-went g c keying s group ran =
    let left = c.sync-sealed.ensures.any_moment ran.over.image s ran.over.told ran.over.quiet ran.over.stands in
    sealed_now keying _ _ c.args.pool.now s group (told_of c.args.note.now) c.args.taken (closed_of c.args.closed.now) ran
    (noted_as (told_of c.args.note.now) outcomes.Sealed c.args.taken) c.sync-sealed.new.pool refl c.crash_laws-2.ensures.here
    left.0 left.1 (search rules) left.3 c.in-Ok.ensures.synced c.in-Ok.ensures.durable

pub returns-in-Err-clause-went : goal.returns-in-Err-clause-went
returns-in-Err-clause-went g c keying s group ran =
    let left = c.sync-sealed.ensures.any_moment ran.over.image s ran.over.told ran.over.quiet ran.over.stands in
    subst
    (λ (status : Status). GroupCut (g.D.Disk.state c.args.disk.now) (g.D.Disk.state c.sync-sealed.new.disk) (lanes_in_turn keying) s
    group (told_of c.args.note.now) status)
    (sym c.told.ensures)
    (cut_now keying _ _ c.args.pool.now s group (told_of c.args.note.now) c.args.taken (closed_of c.args.closed.now) ran
    (told_of c.args.note.now) c.in-Err.fault
    (λ i. noted_as (told_of c.args.note.now) (c.requires.cut i) (c.requires.untaken i))
    c.crash_laws-2.ensures.here left.0 left.1 left.3
    (λ same. c.sync-sealed.ensures.before_the_gate ran.over.image s ran.over.told ran.over.quiet ran.over.stands
    (c.in-Err.is ∙ ap Err same))
    (λ same d out. subst (λ disk. (g.D.Disk.state disk).may_leave d) (c.sync-sealed.ensures.unwritten (c.in-Err.is ∙ ap Err same)) out)
    (λ sector same d out. subst (λ disk. (g.D.Disk.state disk).may_leave d)
    (c.sync-sealed.ensures.damaged sector (c.in-Err.is ∙ ap Err same)).0 out)
    (λ same. c.sync-sealed.ensures.unread_crash (c.in-Err.is ∙ ap Err same)))
