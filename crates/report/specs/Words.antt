-- The words of a line.
use Rattle.std.specs.Prelude.{ℕ, ◌≤◌, nat_le, Bool, true, IsTrue, List, length, map}
use Rattle.std.specs.List.{join_with_byte, list_all}
use Rattle.std.specs.Fmt.{decimal}
use Rattle.report.specs.declared.words.Word.{Word}
use Rattle.report.specs.declared.words.Word.TheVariants.{Text, Number}

-- a word as it is printed
abbrev pub word_text : Word → List ℕ
word_text (Text text) = text.now
word_text (Number number) = decimal number

-- words with a space between two
abbrev pub joined_text : List Word → List ℕ
joined_text words = join_with_byte 32 (map word_text words)

-- no longer than the longest number, which has 20 digits
abbrev pub is_short : Word → Bool
is_short (Text text) = nat_le (length text.now) 20
is_short (Number number) = true

-- few and short enough for a line
abbrev pub FitsLine : List Word → Type 0
FitsLine words = (length words ≤ 10) × IsTrue (list_all is_short words)
