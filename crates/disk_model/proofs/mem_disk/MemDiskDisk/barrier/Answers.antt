-- What was written since the last barrier is in place from now on.
use Rattle.std.proofs.Common.{◌≡◌, rules, [], ◌∷◌, ◌++◌, length, ◌∙◌, ap, subst}
use Rattle.disk_model.specs.Images.{Image}
use Rattle.disk_model.specs.Memory.{MemoryDisk, MayBeLeft, MayLeave, cells_after, padded}
use Rattle.disk_model.proofs.Kept.{settled_at_barrier, left_at_barrier, elapses_to}
use Rattle.disk_model.specs.declared.call.Call.TheVariants.{Barrier}
use Rattle.disk_model.proofs.mem_disk.MemDiskDisk.barrier.Goals as goal

pub returns-clause-durable : goal.returns-clause-durable
returns-clause-durable c =
    settled_at_barrier (length c.self.inside.cells.items) c.self.inside.start.items c.self.inside.calls.items c.self.inside.cells.items
    c.self.invariant c.push.new.self.items (search rules)

pub returns-clause-crash : goal.returns-clause-crash
returns-clause-crash c =
    let cells = c.self.inside.cells.items in
    let start = c.self.inside.start.items in
    let later = c.push.new.self.items in
    let shrinks = left_at_barrier (length cells) start c.self.inside.calls.items cells c.self.invariant later (search rules) in
    subst (λ (d : MemoryDisk). (left : Image) → MayLeave (length cells) (cells_after (padded (length cells) start) later) left
    → MayBeLeft d left) c.self.view_is shrinks

pub returns-clause-time : goal.returns-clause-time
returns-clause-time c =
    let as_many = ap (λ (d : MemoryDisk). d.sectors) c.self.view_is in
    let same = ap (λ (d : MemoryDisk). d.start) c.self.view_is in
    let calls = ap (λ (d : MemoryDisk). d.calls ++ Barrier ∷ []) c.self.view_is in
    let recorded : c.push.new.self.items ≡ c.self.inside.calls.items ++ Barrier ∷ [] = search rules in
    elapses_to c.args.self.now _ _ _ _ _ Barrier as_many same (recorded ∙ calls)
