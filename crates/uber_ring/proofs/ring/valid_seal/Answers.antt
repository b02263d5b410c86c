use Rattle.uber_ring.proofs.Told.{told_closed, told_seal}
use Rattle.uber_ring.proofs.ring.valid_seal.Goals as goal

pub returns-then-not-branch-clause-seal : goal.returns-then-not-branch-clause-seal
returns-then-not-branch-clause-seal g c =
    told_closed c.args.version c.args.slot (g.D.Disk.state c.args.disk.now).seen c.in_ok-gate_open.field-0 c.in_ok-gate_open.ensures.gate
    c.if-not-branch.true

pub returns-clause-seal : goal.returns-clause-seal
returns-clause-seal g c =
    told_seal c.args.version c.args.slot (g.D.Disk.state c.args.disk.now).seen (g.D.Disk.state c.args.disk.now).sectors
    c.in_ok-gate_open.field-0 c.read.new.out c.seal_of.result c.requires.told c.requires.pool c.in_ok-gate_open.ensures.gate
    c.if-not-branch.false c.in_ok-read.ensures.bytes c.seal_of.ensures
