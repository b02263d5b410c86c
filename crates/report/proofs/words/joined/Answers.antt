use Rattle.std.proofs.Common.{length, ap, arith}
use Rattle.report.proofs.WordLemmas.{joined_text-first}
use Rattle.report.proofs.words.joined.Goals as goal

pub words-init : goal.words-init
words-init c = (
  rw (c.push_word.ensures.text, c.new-line.ensures) (joined_text-first c.args.words.now _ c.in-len1-up.len_at_least),
  omega (arith, ap length c.new-line.ensures),
)
