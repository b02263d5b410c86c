-- The new disk holds from the start what the crash left.
use Rattle.std.proofs.Common.{◌≡◌, Some, length, ◌∙◌, ap, subst, sym}
use Rattle.disk_model.specs.Images.{Image}
use Rattle.disk_model.specs.DiskLaws.{IsImage}
use Rattle.disk_model.specs.Crashes.{NothingPending}
use Rattle.disk_model.specs.Memory.{MemoryDisk, MayBeLeft, contents, cells_of, crash_image, new_disk}
use Rattle.disk_model.proofs.Kept.{crashed_whole, crashed_left, settled_anew}
use Rattle.disk_model.proofs.mem_disk.MemDisk.crash.Goals as goal

pub holding-requires-clause-whole : goal.holding-requires-clause-whole
holding-requires-clause-whole c =
    let inside = c.self.inside in
    let here = crashed_whole
    (length inside.cells.items) inside.start.items inside.calls.items inside.cells.items c.self.invariant c.args.choice in
    let whole : IsImage c.args.self.sectors (crash_image c.args.choice (cells_of c.args.self)) = subst
    (λ (d : MemoryDisk). IsImage d.sectors (crash_image c.args.choice (cells_of d))) c.self.view_is here in
    let same : c.in-Ok.cells.items ≡ crash_image c.args.choice (cells_of c.args.self) = c.in-Ok.ensures.second in
    subst (λ (i : Image). IsImage (length i) i) (sym same)
    (subst (λ n. IsImage n (crash_image c.args.choice (cells_of c.args.self))) (sym whole.count) whole)

pub returns-in-Ok-clause-left : goal.returns-in-Ok-clause-left
returns-in-Ok-clause-left c =
    let inside = c.self.inside in
    let here = crashed_whole
    (length inside.cells.items) inside.start.items inside.calls.items inside.cells.items c.self.invariant c.args.choice in
    let whole : IsImage c.args.self.sectors (crash_image c.args.choice (cells_of c.args.self)) = subst
    (λ (d : MemoryDisk). IsImage d.sectors (crash_image c.args.choice (cells_of d))) c.self.view_is here in
    let same : c.in-Ok.cells.items ≡ crash_image c.args.choice (cells_of c.args.self) = c.in-Ok.ensures.second in
    c.holding.ensures ∙ ap (λ (i : Image). new_disk (length i) i) same
    ∙ ap (λ n. new_disk n (crash_image c.args.choice (cells_of c.args.self))) whole.count

pub returns-in-Ok-clause-outcome : goal.returns-in-Ok-clause-outcome
returns-in-Ok-clause-outcome c =
    let inside = c.self.inside in
    let here = crashed_left
    (length inside.cells.items) inside.start.items inside.calls.items inside.cells.items c.self.invariant c.args.choice in
    let left = subst (λ (d : MemoryDisk). MayBeLeft d (crash_image c.args.choice (cells_of d))) c.self.view_is here in
    let same : c.in-Ok.cells.items ≡ crash_image c.args.choice (cells_of c.args.self) = c.in-Ok.ensures.second in
    subst (λ (i : Image). MayBeLeft c.args.self i) (sym (ap contents c.holding.ensures ∙ same)) left

pub returns-in-Ok-clause-settled : goal.returns-in-Ok-clause-settled
returns-in-Ok-clause-settled c =
    let inside = c.self.inside in
    let here = crashed_whole
    (length inside.cells.items) inside.start.items inside.calls.items inside.cells.items c.self.invariant c.args.choice in
    let whole : IsImage c.args.self.sectors (crash_image c.args.choice (cells_of c.args.self)) = subst
    (λ (d : MemoryDisk). IsImage d.sectors (crash_image c.args.choice (cells_of d))) c.self.view_is here in
    let same : c.in-Ok.cells.items ≡ crash_image c.args.choice (cells_of c.args.self) = c.in-Ok.ensures.second in
    let cells_whole = subst (λ (i : Image). IsImage (length i) i) (sym same)
    (subst (λ n. IsImage n (crash_image c.args.choice (cells_of c.args.self))) (sym whole.count) whole) in
    subst (λ (d : MemoryDisk). NothingPending (Some (contents d)) (MayBeLeft d)) (sym c.holding.ensures)
    (settled_anew (length c.in-Ok.cells.items) c.in-Ok.cells.items cells_whole)
