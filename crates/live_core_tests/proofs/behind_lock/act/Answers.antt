use Rattle.live_core_tests.proofs.Allowed.{fits_group}
use Rattle.live_core_tests.proofs.behind_lock.act.Goals as goal

pub act-requires-clause-fits : goal.act-requires-clause-fits
act-requires-clause-fits g c κs within = fits_group _ c.args.step c.requires.ready.of_group c.requires.allowed
