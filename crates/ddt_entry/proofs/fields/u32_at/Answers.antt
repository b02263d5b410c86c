use Rattle.std.proofs.Common.{◌∙◌, ap, List, ℕ}
use Rattle.byteorder.specs.Endian.{little_number}
use Rattle.ddt_entry.proofs.Bytes.{number_at-drop}
use Rattle.ddt_entry.proofs.fields.u32_at.Goals as goal

pub returns : goal.returns
returns c =
    c.read_u32.ensures ∙ ap (λ (xs : List ℕ). little_number 4 xs) c.split_at.ensures.back ∙ number_at-drop 4 c.args.offset c.args.bytes.now
