-- The rule of the quota.
use Rattle.std.specs.Prelude.{ℕ, ◌+◌, ◌*◌, Bool, true, nat_le, Option, None, Some}

-- whether the quota, if there is one, has room for one more key at 256 bytes each
abbrev pub allows : (keys : ℕ) → (quota : Option ℕ) → Bool
allows keys None = true
allows keys (Some limit) = nat_le (256 * (keys + 1)) limit
