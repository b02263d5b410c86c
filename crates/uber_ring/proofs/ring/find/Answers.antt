use Rattle.std.proofs.Common.{rules, ◌≡◌, subst}
use Rattle.std.specs.Prelude.{IfSome}
use Rattle.uber_ring.specs.Ring.{slot_count, highest, seal_at}
use Rattle.uber_ring.proofs.Told.{told_all, told_small}
use Rattle.uber_ring.proofs.ring.find.Goals as goal

pub returns-then-sectors-lt-FEWEST_SECTORS-clause-found : goal.returns-then-sectors-lt-FEWEST_SECTORS-clause-found
returns-then-sectors-lt-FEWEST_SECTORS-clause-found g c =
    told_small c.args.version c.sectors.result (g.D.Disk.state c.args.disk.now).seen c.sectors.ensures.told (search rules)

pub returns-clause-found : goal.returns-clause-found
returns-clause-found g c =
    let ended : c.slots.slot ≡ slot_count = search rules in
    told_all c.args.version (g.D.Disk.state c.args.disk.now).seen c.slots.best
    (subst (λ n. IfSome (g.D.Disk.state c.args.disk.now).seen (λ image. c.slots.best ≡ highest (seal_at c.args.version image) n)) ended
    c.slots.invariant.0)
