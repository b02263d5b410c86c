-- What a disk holds: sectors of 4,096 bytes.
use Rattle.std.specs.Prelude.{ℕ, List, [], slice_index_or}

-- the sectors in the order of their numbers
abbrev pub Image : Type 0
Image = List (List ℕ)

-- a sector's bytes
abbrev pub sector_at : Image → ℕ → List ℕ
sector_at image at = slice_index_or image at []
