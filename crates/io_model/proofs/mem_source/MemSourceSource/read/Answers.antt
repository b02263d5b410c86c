use Rattle.std.proofs.Common.{◌≡◌, ◌+◌, arith, ap, length, take, drop, sym, ◌∙◌}
use Rattle.std.proofs.lemmas.Grind.{common_steps}
use Rattle.std.proofs.lemmas.List.{nil_from_length}
use Rattle.io_model.specs.Memory.{Supply}
use Rattle.io_model.proofs.Bytes.{front_given}
use Rattle.io_model.proofs.mem_source.MemSourceSource.read.Goals as goal

pub returns-clause-bytes : goal.returns-clause-bytes
returns-clause-bytes c =
    let all = c.self.inside.bytes.items in
    let given = c.self.inside.given in
    let n = c.min-count.result in
    let front = c.copy_from_slice.new.self in
    let copied : front ≡ take n (drop given all) = grind (arith, common_steps) in
    let count : length front ≡ n = grind (arith, common_steps) in
    let behind = drop n c.args.out.now in
    let moved = front_given all front behind given n copied count in
    (ap (λ (source : Supply). source.left) (sym c.self.view_is) ∙ moved, λ none room. nil_from_length (drop (given + n) all) (grind (arith, common_steps)))
