-- When a source was read out.
use Rattle.std.specs.Prelude.{◌≡◌, ◌⊎◌, ℕ, ◌+◌, List, length, Option}
use Rattle.std.specs.Io.KnownBytes.{Consumes}
use Rattle.io_model.specs.Outside.{HasRead}
use Rattle.pool_model.specs.File.{file_limit}

-- the source was read to its end, or a file past the limit to the byte behind the limit
abbrev pub IsReadOut : (left rest : Option (List ℕ)) → (bytes : List ℕ) → Type 0
IsReadOut left rest bytes = HasRead left rest bytes ⊎ ((length bytes ≡ file_limit + 1) × Consumes left rest bytes)
