use Rattle.std.proofs.Common.{ap, ◌∙◌}
use Rattle.log_pair.specs.Paired.{Paired}
use Rattle.log_pair.proofs.PairLaws.{exchanged-replayed}
use Rattle.log_pair.proofs.pair.LogPair.swap.Goals as goal

pub invariant_of-self : goal.invariant_of-self
invariant_of-self c =
    rw (c.swap.ensures.x_after, c.swap.ensures.y_after, c.swap-2.ensures.x_after, c.swap-2.ensures.y_after, c.set_checkpoint.ensures)
    (exchanged-replayed c.self.inside.active c.self.inside.flush c.self.inside.active_log c.self.inside.flushing_log
    (ap (λ (pair : Paired). pair.flush) c.self.view_is ∙ c.requires.flush)
    (ap (λ (pair : Paired). pair.logs.flushing) c.self.view_is ∙ c.requires.flushing) c.self.invariant)
