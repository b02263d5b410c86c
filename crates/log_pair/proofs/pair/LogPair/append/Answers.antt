use Rattle.log_pair.specs.Paired.{pair_of}
use Rattle.log_pair.proofs.PairLaws.{with_change-replayed}
use Rattle.log_pair.proofs.pair.LogPair.append.Goals as goal

pub invariant_of-self-2 : goal.invariant_of-self-2
invariant_of-self-2 g c =
    rw (c.in_ok-before.ensures.set, c.remove.ensures, c.key_of.ensures, c.in_default.ensures.appended)
    (with_change-replayed c.args.change
    (pair_of c.self.inside.active c.self.inside.flush c.self.inside.active_log c.self.inside.flushing_log) c.self.invariant)
