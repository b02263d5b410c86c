use Rattle.pool_model.specs.Group.{change_of}
use Rattle.plain_run.specs.Openings.{opening_by}
use Rattle.pool_model.proofs.Loops.{filter_map_more}
use Rattle.plain_run.proofs.course.PlainCourse.changes_of.Goals as goal

pub loop-key-preserved : goal.loop-key-preserved
loop-key-preserved c = λ key_of.
    filter_map_more (change_of (opening_by key_of c.args.opening.now) c.args.self.now) _ _ _ _ _ _ c.loop-key-test.true
    (c.loop-key.invariant key_of) (c.in_ok-change.ensures key_of) c.in_ok-changes.ensures
