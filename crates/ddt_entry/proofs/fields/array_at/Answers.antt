use Rattle.std.proofs.Common.{ap, ◌∙◌, take, List, ℕ}
use Rattle.ddt_entry.specs.Bytes.{bytes_at}
use Rattle.ddt_entry.proofs.fields.array_at.Goals as goal

pub returns : goal.returns
unfolding bytes_at
returns g c = c.copy_from_slice.ensures.after ∙ c.split_at-2.ensures.front ∙ ap (λ (xs : List ℕ). take g.row.N xs) c.split_at.ensures.back
