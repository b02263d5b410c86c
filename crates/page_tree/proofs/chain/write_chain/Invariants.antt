use Rattle.std.proofs.Common.{◌≤◌, ◌*◌, length, drop}
use Rattle.disk_model.specs.Images.{Image}
use Rattle.disk_model.specs.Crashes.{LeavesOnly}
use Rattle.disk_model.specs.Accounts.{Keeps}
use Rattle.page_tree.specs.Chains.{page_records}
use Rattle.page_tree.specs.ChainWrites.{chain_of, MayTouchAll, ChainLeaves}
use Rattle.page_tree.proofs.Chaining.{HasWritten}
use Rattle.page_tree.proofs.chain.write_chain.Given as goal

abbrev pub invariant-pages : goal.invariant-pages
invariant-pages g l =
    (l.left ≤ length l.places)
    × Keeps (g.D.Disk.state l.fn.disk) (g.D.Disk.state l.disk)
    × HasWritten (chain_of (drop l.left l.places) (drop (page_records * l.left) l.records)) l.next
    (g.D.Disk.state l.fn.disk).seen (g.D.Disk.state l.disk).seen
    × MayTouchAll (g.D.Disk.state l.fn.disk).seen (g.D.Disk.state l.disk).seen l.places
    × LeavesOnly (g.D.Disk.state l.fn.disk) (g.D.Disk.state l.disk) (ChainLeaves l.places (g.D.Disk.state l.fn.disk).may_leave)
    × ((c : Image) → (g.D.Disk.state l.disk).may_leave c → ChainLeaves l.places (g.D.Disk.state l.fn.disk).may_leave c)

abbrev pub decreases-pages : goal.decreases-pages
decreases-pages g l = l.left
