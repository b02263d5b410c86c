use Rattle.pool_model.specs.Command.{Course}
use Rattle.plain_run.proofs.Afterwards.{same_course, same_if_ok}
use Rattle.plain_run.proofs.standing.PlainStanding.course.Goals as goal

pub returns : goal.returns
returns g c =
    let opened = c.in_ok-opening.ensures (g.K.KeyOf.keying c.args.keyer.now).key_of in
    let same = same_course _ _ _ _ _ _ c.args.note.now opened c.in_ok-pool.ensures c.as_slice.ensures in
    same_if_ok (λ (k : Course). k) c.after_lanes.result _ _ same c.after_lanes.ensures
