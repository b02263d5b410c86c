-- Nothing is pending on a new disk.
use Rattle.std.proofs.Common.{◌≡◌, [], length, Some, subst, sym}
use Rattle.disk_model.specs.Images.{Image}
use Rattle.disk_model.specs.DiskLaws.{IsImage}
use Rattle.disk_model.specs.Crashes.{NothingPending}
use Rattle.disk_model.specs.Memory.{MayBeLeft, MemoryDisk, contents, padded}
use Rattle.disk_model.proofs.Kept.{IsImage-zeros, settled_anew}
use Rattle.disk_model.proofs.mem_disk.MemDisk.new.Goals as goal

pub returns-clause-settled : goal.returns-clause-settled
returns-clause-settled c =
    let zeros = IsImage-zeros c.args.sectors in
    let same : c.in_ok-zeros.zeros.items ≡ padded c.args.sectors [] = c.in_ok-zeros.ensures in
    let whole : IsImage (length c.in_ok-zeros.zeros.items) c.in_ok-zeros.zeros.items =
    subst (λ (i : Image). IsImage (length i) i) (sym same)
    (subst (λ n. IsImage n (padded c.args.sectors [])) (sym zeros.count) zeros) in
    subst (λ (d : MemoryDisk). NothingPending (Some (contents d)) (MayBeLeft d)) (sym c.holding.ensures)
    (settled_anew (length c.in_ok-zeros.zeros.items) c.in_ok-zeros.zeros.items whole)
