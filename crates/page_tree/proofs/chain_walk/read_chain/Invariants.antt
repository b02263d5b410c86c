use Rattle.std.proofs.Common.{◌≡◌, ◌≤◌, ◌-◌}
use Rattle.std.specs.Prelude.{IfSome}
use Rattle.page_tree.specs.Chains.{chain_in}
use Rattle.page_tree.proofs.Walking.{Continues}
use Rattle.page_tree.proofs.chain_walk.read_chain.Given as goal

abbrev pub invariant-pages : goal.invariant-pages
invariant-pages g l =
    IfSome (g.D.Disk.state l.disk).seen
    (λ image. Continues image (g.D.Disk.state l.disk).sectors (chain_in image (g.D.Disk.state l.disk).sectors l.fn.named.items l.root)
    (l.sectors - l.counter) l.named.items l.fn.out.items l.out.items l.pointer)
    × (l.sectors ≡ (g.D.Disk.state l.disk).sectors) × (g.D.Disk.meter_faults l.fn.meter ≤ g.D.Disk.meter_faults l.meter)
