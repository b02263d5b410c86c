-- A pool's pointers as its statistics see them.
use Rattle.std.specs.Prelude.{◌≤◌, ◌^◌, Bool, true, false, List, length, All}
use Rattle.pool_model.specs.Pool.{Pointer, Mark, plain, tracked, loose}
use Rattle.pool_stats.specs.declared.reference.Reference.{Reference}
use Rattle.pool_stats.specs.declared.reference.Standing.{Standing}
use Rattle.pool_stats.specs.declared.reference.Standing.TheVariants.{Plain, Tracked, Loose}

-- a mark without its moment
abbrev pub standing_of : Mark → Standing
standing_of plain = Plain
standing_of (tracked since) = Tracked
standing_of loose = Loose

-- what the statistics see of a pointer
abbrev pub reference_of : Pointer → Reference
reference_of pointer = record { key = pointer.key; standing = standing_of pointer.mark }

abbrev pub is_tracked : Standing → Bool
is_tracked Plain = false
is_tracked Tracked = true
is_tracked Loose = false

abbrev pub is_plain : Standing → Bool
is_plain Plain = true
is_plain Tracked = false
is_plain Loose = false

abbrev pub is_loose : Standing → Bool
is_loose Plain = false
is_loose Tracked = false
is_loose Loose = true

-- few enough pointers, and keys short enough, for each number to fit 64 bits
pub record AreSmall (references : List Reference) : Type 0 where
  pub few : length references ≤ 2 ^ 20
  pub short : All (λ reference. reference.key.len ≤ 4096) references
