-- The write goes behind the record, and its bytes into the sector.
use Rattle.std.proofs.Common.{◌≡◌, rules, [], ◌∷◌, ◌++◌, length, ◌∙◌, ap, sym, subst}
use Rattle.std.specs.Prelude.{slice_set}
use Rattle.std.proofs.lemmas.List.{length-set}
use Rattle.disk_model.specs.DiskLaws.{Torn, Follows}
use Rattle.disk_model.specs.Memory.{MemoryDisk, MayBeLeft, MayLeave, IsKept, cells_after, padded}
use Rattle.disk_model.proofs.Kept.{kept_by_write, left_by_write, elapses_to}
use Rattle.disk_model.specs.declared.call.Call.TheVariants.{Write}
use Rattle.disk_model.specs.declared.call.SectorWrite.{SectorWrite}
use Rattle.disk_model.proofs.mem_disk.MemDiskDisk.write.Goals as goal

pub invariant_of-self-2 : goal.invariant_of-self-2
invariant_of-self-2 c =
    let cells = c.self.inside.cells.items in
    let write : SectorWrite = record { at = c.args.at; bytes = c.args.from.now } in
    let kept = kept_by_write
    (length cells) c.self.inside.start.items c.self.inside.calls.items cells c.self.invariant write c.push.new.self.items (search rules)
    (search rules) (search rules) in
    subst (λ n. IsKept n c.self.inside.start.items c.push.new.self.items (slice_set cells c.args.at c.args.from.now))
    (sym (length-set cells c.args.at c.args.from.now)) kept

pub returns-clause-crash : goal.returns-clause-crash
returns-clause-crash c =
    let cells = c.self.inside.cells.items in
    let start = c.self.inside.start.items in
    let later = c.push.new.self.items in
    let write : SectorWrite = record { at = c.args.at; bytes = c.args.from.now } in
    let old = MayLeave (length cells) (cells_after (padded (length cells) start) c.self.inside.calls.items) in
    let follows = left_by_write (length cells) start c.self.inside.calls.items cells c.self.invariant write later (search rules)
    (search rules) in
    let as_long = subst (λ n. Follows (Torn c.args.at) old (MayLeave n (cells_after (padded n start) later)))
    (sym (length-set cells c.args.at c.args.from.now)) follows in
    let new = length (slice_set cells c.args.at c.args.from.now) in
    subst (λ (d : MemoryDisk). Follows (Torn c.args.at) (MayBeLeft d) (MayLeave new (cells_after (padded new start) later))) c.self.view_is
    as_long

pub returns-clause-time : goal.returns-clause-time
returns-clause-time c =
    let cells = c.self.inside.cells.items in
    let write : SectorWrite = record { at = c.args.at; bytes = c.args.from.now } in
    let as_long = length-set cells c.args.at c.args.from.now in
    let as_many = as_long ∙ ap (λ (d : MemoryDisk). d.sectors) c.self.view_is in
    let same = ap (λ n. padded n c.self.inside.start.items) as_long ∙ ap (λ (d : MemoryDisk). d.start) c.self.view_is in
    let calls = ap (λ (d : MemoryDisk). d.calls ++ Write write ∷ []) c.self.view_is in
    let recorded : c.push.new.self.items ≡ c.self.inside.calls.items ++ Write write ∷ [] = search rules in
    elapses_to c.args.self.now _ _ _ _ _ (Write write) as_many same (recorded ∙ calls)
