use Rattle.plain_run.specs.Standings.{standing_of}
use Rattle.plain_run.proofs.Afterwards.{same_after, same_if_ok}
use Rattle.plain_run.proofs.standing.PlainStanding.after_group.Goals as goal

pub returns : goal.returns
returns g c =
    let key_of = (g.K.KeyOf.keying c.args.keyer.now).key_of in
    let same = same_after _ _ (standing_of c.args.self) _ _ c.args.pages.items (c.in_ok-opening.ensures key_of) c.in_ok-course.ensures in
    same_if_ok standing_of c.after_course.result _ _ same (c.after_course.ensures key_of)
