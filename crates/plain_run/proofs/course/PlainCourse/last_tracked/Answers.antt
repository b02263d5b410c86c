use Rattle.std.proofs.Common.{sym, ◌∙◌, ap}
use Rattle.pool_model.specs.Pool.{tracks}
use Rattle.pool_model.specs.Command.{last_tracked}
use Rattle.plain_run.proofs.LastTracked.{or_in-Some, or_in-None}
use Rattle.plain_run.proofs.course.PlainCourse.last_tracked.Goals as goal

pub returns-in-Some : goal.returns-in-Some
returns-in-Some c = rw (← c.self.view_is)
    (sym (or_in-Some (tracks c.args.key.now)
    (last_tracked c.args.key.now c.self.inside.earlier.items) c.self.inside.pool.pointers c.in-Some.pointer.now (sym c.in-Some.ensures)))

pub returns-in-None : goal.returns-in-None
returns-in-None c =
    rw (← c.self.view_is)
    (c.last_tracked.ensures ∙ ap (last_tracked c.args.key.now) c.as_slice.ensures.value
    ∙ sym (or_in-None (tracks c.args.key.now) _ c.self.inside.pool.pointers (sym c.in-None.ensures)))
