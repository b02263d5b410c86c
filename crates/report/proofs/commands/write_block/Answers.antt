use Rattle.std.proofs.Common.{[], ◌∷◌}
use Rattle.hex.specs.Hex.{encode_lower}
use Rattle.report.proofs.WordLemmas.{joined_text-more}
use Rattle.report.proofs.Written.{Wrote-failed, Wrote-longer, Wrote-same, Wrote-then}
use Rattle.report.proofs.commands.write_block.Goals as goal

pub returns-in_err-write_words : goal.returns-in_err-write_words
returns-in_err-write_words g c =
    let failed = c.from_residual.ensures.0 in
    let digits = encode_lower c.args.content.now in
    Wrote-same (joined_text-more c.args.words.now digits c.requires.some)
    (Wrote-longer (10 ∷ []) failed (Wrote-longer digits failed (Wrote-failed failed c.in_err-write_words.ensures)))

pub returns-in_err-write_hex : goal.returns-in_err-write_hex
returns-in_err-write_hex g c =
    let failed = c.from_residual-in_err-write_hex.ensures.0 in
    Wrote-same (joined_text-more c.args.words.now (encode_lower c.args.content.now) c.requires.some)
    (Wrote-longer (10 ∷ []) failed (Wrote-failed failed (Wrote-then c.in_ok-write_words.ensures c.in_err-write_hex.ensures)))

pub returns : goal.returns
returns g c =
    Wrote-same (joined_text-more c.args.words.now (encode_lower c.args.content.now) c.requires.some)
    (Wrote-then (Wrote-then c.in_ok-write_words.ensures c.in_ok-write_hex.ensures) c.write_line.ensures)
