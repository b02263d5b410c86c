use Rattle.log_pair.specs.Paired.{pair_of}
use Rattle.log_pair.proofs.PairLaws.{first-replayed}
use Rattle.log_pair.proofs.pair.LogPair.pop_flush.Goals as goal

pub invariant_of-self-2 : goal.invariant_of-self-2
invariant_of-self-2 c =
    rw (c.set_checkpoint.ensures, c.key_of.ensures)
    (first-replayed (pair_of c.self.inside.active c.self.inside.flush c.self.inside.active_log c.self.inside.flushing_log)
    c.in-Some.change c.pop_first.new.self c.in-Some.ensures.rest c.self.invariant)
