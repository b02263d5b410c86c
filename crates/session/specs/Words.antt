-- The words that a session answers to.
use Rattle.std.specs.Prelude.{ℕ, List, [], ◌∷◌, codes, Option, Some, None, if◌then◌else◌}
use Rattle.std.specs.Str.{bytes_eq}
use Rattle.session.specs.declared.words.Word.{Word}
use Rattle.session.specs.declared.words.Word.TheVariants.{Run, Make}
use Rattle.session.specs.declared.words.Look.{Look}
use Rattle.session.specs.declared.words.Look.TheVariants.{Create, Stat}

-- the words of a session that runs a command file: on the pool that is there, or on a new one
abbrev pub running_word : List ℕ → Option Word
running_word word = if bytes_eq word (codes "run") then Some Run else (if bytes_eq word (codes "make") then Some Make else None)

abbrev pub running_words : List (List ℕ) → Option Word
running_words (word ∷ []) = running_word word
running_words words = None

-- the words of a session that runs none: a pool is created, or told of
abbrev pub looking_word : List ℕ → Option Look
looking_word word = if bytes_eq word (codes "create") then Some Create else (if bytes_eq word (codes "stat") then Some Stat else None)

abbrev pub looking_words : List (List ℕ) → Option Look
looking_words (word ∷ []) = looking_word word
looking_words words = None
