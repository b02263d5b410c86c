-- How an answer is told.
use Rattle.std.specs.Prelude.{ℕ, nat_le, Bool, true, List, [], ◌∷◌, length, codes}
use Rattle.std.specs.Fmt.{decimal}
use Rattle.hex.specs.Hex.{encode_lower}
use Rattle.report.specs.declared.commands.Answered.{Answered}
use Rattle.report.specs.declared.commands.Answered.TheVariants.{Named, Damaged, Bytes}

-- the words behind a command's own
abbrev pub answered_words : Answered → List (List ℕ)
answered_words (Named name) = name.now ∷ []
answered_words (Damaged sector) = codes "damaged" ∷ decimal sector ∷ []
answered_words (Bytes content) = codes "bytes" ∷ encode_lower content.now ∷ []

-- its name is no longer than the longest number
abbrev pub is_short_answer : Answered → Bool
is_short_answer (Named name) = nat_le (length name.now) 20
is_short_answer (Damaged sector) = true
is_short_answer (Bytes content) = true
