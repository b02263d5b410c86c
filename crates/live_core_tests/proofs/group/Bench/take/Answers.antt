use Rattle.live_core_tests.proofs.Allowed.{fits_group}
use Rattle.live_core_tests.proofs.group.Bench.take.Goals as goal

pub apply-requires-clause-fits : goal.apply-requires-clause-fits
apply-requires-clause-fits g c = fits_group _ c.args.step c.args.self.now.of_group c.assert_allowed.ensures
