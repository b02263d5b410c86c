use Rattle.std.proofs.Common.{◌≡◌, ℕ, ◌<◌, List, ◌∷◌, length, ap, arith, rules}
use Rattle.std.specs.List.{slice_split}
use Rattle.std.proofs.lemmas.List.Splits.{length-slice_split}
use Rattle.pool_model.specs.File.{is_space}
use Rattle.cmd_file.proofs.cuts.words_of.Goals as goal

-- behind a fourth space stands a fifth word
has_fifth : (line rest a b c d : List ℕ) → slice_split is_space line ≡ a ∷ b ∷ c ∷ d ∷ slice_split is_space rest
    → 4 < length (slice_split is_space line)
has_fifth line rest a b c d words = omega (arith, ap length words, length-slice_split is_space rest)

pub returns : goal.returns
returns c = has_fifth c.args.line.now c.in-Some-rest-3._fifth.now c.cut.result.0.now c.cut-2.result.0.now c.cut-3.result.0.now
    c.cut-4.result.0.now (search rules)
