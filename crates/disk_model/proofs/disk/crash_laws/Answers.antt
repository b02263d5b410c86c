-- The laws of the trait hold wherever a thread may run, and so here.
use Rattle.disk_model.proofs.disk.crash_laws.Goals as goal

pub returns-clause-here : goal.returns-clause-here
returns-clause-here g c = (g.met.D.Disk g.world.𝓛 g.world.𝓜 g.world.𝓡 ((λ s x. x), (λ x. x), (λ x. x), λ x. x)).is_disk c.args.disk.now
