-- How bytes are laid out: little-endian numbers, parts at an offset, and zeros.
use Rattle.std.specs.Prelude.{ℕ, ◌<◌, List, slice_index, take, drop, replicate}
use Rattle.byteorder.specs.Endian.{little_number, little_bytes}

-- the part of `len` bytes at an offset
unfoldable pub bytes_at : ℕ → ℕ → List ℕ → List ℕ
bytes_at len offset bytes = take len (drop offset bytes)

-- the number that the `len` bytes at an offset spell, the lowest byte first
unfoldable pub number_at : ℕ → ℕ → List ℕ → ℕ
number_at len offset bytes = little_number len (bytes_at len offset bytes)

-- the `len` bytes that spell a number, the lowest byte first
unfoldable pub number_bytes : ℕ → ℕ → List ℕ
number_bytes len number = little_bytes len number

-- this many zeros
unfoldable pub zeros : ℕ → List ℕ
zeros len = replicate len 0

-- each number of the list is a byte
abbrev pub AreBytes : List ℕ → Type 0
AreBytes bytes = (i : ℕ) → slice_index bytes i < 256
