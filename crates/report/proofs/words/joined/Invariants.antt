-- The line so far, and the words that are left behind it, are the whole.
use Rattle.std.proofs.Common.{◌≡◌, ◌≤◌, ◌+◌, ◌*◌, ◌++◌, length, drop}
use Rattle.report.specs.Words.{joined_text}
use Rattle.report.proofs.WordLemmas.{spaced_text}
use Rattle.report.proofs.words.joined.Given as goal

abbrev pub invariant-words : goal.invariant-words
invariant-words l = (l.line.bytes ++ spaced_text (drop l.word-index l.others) ≡ joined_text l.words)
    × (length l.line.bytes ≤ 20 + 21 * l.word-index)
