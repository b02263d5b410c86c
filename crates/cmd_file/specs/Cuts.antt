-- What cutting a file into lines, and a line into words, gives.
use Rattle.std.specs.Prelude.{◌≡◌, ℕ, ◌<◌, Bool, List, [], ◌∷◌, length, Option, Some, None}
use Rattle.std.specs.List.{slice_split}
use Rattle.cmd_file.specs.declared.cuts.Words.{Words}
use Rattle.cmd_file.specs.declared.cuts.Words.TheVariants.{One, Two, Three, Four, More}

-- the pieces of what stands behind a cut, or none where nothing was cut off
abbrev pub pieces_left : (cuts : ℕ → Bool) → (rest : Option (List ℕ)) → List (List ℕ)
pieces_left cuts None = []
pieces_left cuts (Some rest) = slice_split cuts rest

-- the line has these words and no others
abbrev pub IsWords : Words → (words : List (List ℕ)) → Type 0
IsWords (One first) words = words ≡ first.now ∷ []
IsWords (Two first second) words = words ≡ first.now ∷ second.now ∷ []
IsWords (Three first second third) words = words ≡ first.now ∷ second.now ∷ third.now ∷ []
IsWords (Four first second third fourth) words = words ≡ first.now ∷ second.now ∷ third.now ∷ fourth.now ∷ []
IsWords More words = 4 < length words
