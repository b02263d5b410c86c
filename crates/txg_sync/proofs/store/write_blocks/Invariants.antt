use Rattle.std.proofs.Common.{map, take}
use Rattle.disk_model.specs.Images.{Image}
use Rattle.disk_model.specs.Crashes.{LeavesOnly}
use Rattle.disk_model.specs.Accounts.{Keeps}
use Rattle.page_tree.specs.ChainWrites.{MayTouchAll, ChainLeaves}
use Rattle.pool_model.specs.Mirrors.{stored_of}
use Rattle.table_state.specs.Closing.{block_places}
use Rattle.txg_sync.specs.Writing.{Stores}
use Rattle.txg_sync.proofs.store.write_blocks.Given as goal

abbrev pub invariant-each : goal.invariant-each
invariant-each g l =
    Keeps (g.D.Disk.state l.fn.disk) (g.D.Disk.state l.disk)
    × Stores (g.D.Disk.state l.fn.disk).seen (g.D.Disk.state l.disk).seen (map stored_of (take l.stored-index l.contents))
    × MayTouchAll (g.D.Disk.state l.fn.disk).seen (g.D.Disk.state l.disk).seen (block_places (map stored_of l.contents))
    × LeavesOnly (g.D.Disk.state l.fn.disk) (g.D.Disk.state l.disk)
    (ChainLeaves (block_places (map stored_of l.contents)) (g.D.Disk.state l.fn.disk).may_leave)
    × ((c : Image) → (g.D.Disk.state l.disk).may_leave c → ChainLeaves (block_places (map stored_of l.contents))
    (g.D.Disk.state l.fn.disk).may_leave c)
