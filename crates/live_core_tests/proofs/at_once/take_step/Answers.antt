use Rattle.live_core_tests.proofs.Allowed.{fits_group}
use Rattle.live_core_tests.proofs.at_once.take_step.Goals as goal

pub act-answer-requires-clause-fits : goal.act-answer-requires-clause-fits
act-answer-requires-clause-fits g c κs within = fits_group _ c.args.step c.requires.ready.of_group c.requires.allowed
