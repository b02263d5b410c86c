use Rattle.pool_model.specs.Group.{lanes_in_turn}
use Rattle.session.specs.Devices.{between}
use Rattle.session.proofs.ItemsGone.{HasGone}
use Rattle.session.proofs.running.do_items.Given as goal

abbrev pub invariant-items : goal.invariant-items
invariant-items g l =
    HasGone
    (between (g.D.Disk.state l.initial.disk) (g.D.Disk.state l.disk) (g.W.Sink.written l.initial.out) (g.W.Sink.written l.out)
    (g.W.Sink.faults l.initial.out) (g.W.Sink.faults l.out))
    (lanes_in_turn (g.K.KeyOf.keying l.keyer)) l.initial.pool l.pool l.items l.item-index l.session
