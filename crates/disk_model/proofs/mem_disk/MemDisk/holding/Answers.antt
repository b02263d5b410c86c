use Rattle.std.proofs.Common.{length}
use Rattle.disk_model.proofs.Kept.{kept_anew}
use Rattle.disk_model.proofs.mem_disk.MemDisk.holding.Goals as goal

pub invariant_of-result : goal.invariant_of-result
invariant_of-result c =
    kept_anew (length c.args.cells.items) c.args.start.items c.args.cells.items c.new.result.items c.requires.fits c.requires.same
    c.requires.whole c.new.ensures.items
