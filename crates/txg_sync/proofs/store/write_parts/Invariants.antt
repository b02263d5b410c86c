use Rattle.std.proofs.Common.{◌≡◌, ◌++◌, take, drop}
use Rattle.disk_model.specs.Images.{Image}
use Rattle.disk_model.specs.Crashes.{LeavesOnly}
use Rattle.disk_model.specs.Accounts.{Keeps}
use Rattle.page_tree.specs.ChainWrites.{MayTouchAll, ChainLeaves}
use Rattle.table_state.specs.Sealed.{places_in, roots_of}
use Rattle.txg_sync.specs.Writing.{HoldsSince}
use Rattle.txg_sync.proofs.store.write_parts.Given as goal

abbrev pub invariant-chains : goal.invariant-chains
invariant-chains g l =
    Keeps (g.D.Disk.state l.fn.disk) (g.D.Disk.state l.disk)
    × HoldsSince (g.D.Disk.state l.fn.disk).seen (g.D.Disk.state l.disk).seen (take l.i l.parts)
    × (l.pointers ≡ roots_of (take l.i l.parts) ++ drop l.i l.fn.pointers)
    × MayTouchAll (g.D.Disk.state l.fn.disk).seen (g.D.Disk.state l.disk).seen (places_in l.parts)
    × LeavesOnly (g.D.Disk.state l.fn.disk) (g.D.Disk.state l.disk) (ChainLeaves (places_in l.parts) (g.D.Disk.state l.fn.disk).may_leave)
    × ((c : Image) → (g.D.Disk.state l.disk).may_leave c → ChainLeaves (places_in l.parts) (g.D.Disk.state l.fn.disk).may_leave c)
