-- The ring: sixteen slots at the front of an image, each a gate and a body, and which seal counts.
use Rattle.std.specs.Prelude.{ℕ, zero, suc, ◌+◌, ◌*◌, Bool, nat_lt, nat_le, length, Option, Some, None, if◌then◌else◌}
use Rattle.disk_model.specs.Images.{Image, sector_at}
use Rattle.uber_ring.specs.Seals.{is_open, body_seal}
use Rattle.uber_ring.specs.declared.seal.Seal.{Seal}

-- how many slots there are
abbrev pub slot_count : ℕ
slot_count = 16

-- how many sectors a pool has at the least
abbrev pub fewest_sectors : ℕ
fewest_sectors = 2048

-- the sectors of a slot
abbrev pub gate_sector : (slot : ℕ) → ℕ
gate_sector slot = 2 * slot

abbrev pub body_sector : (slot : ℕ) → ℕ
body_sector slot = 2 * slot + 1

-- whether a slot's gate is open
abbrev pub gate_is_open : Image → (slot : ℕ) → Bool
gate_is_open image slot = is_open (sector_at image (gate_sector slot))

-- the seal that a slot's body holds, whatever its gate says
unfoldable pub behind : (version : ℕ) → Image → (slot : ℕ) → Option Seal
behind version image slot =
    if nat_le fewest_sectors (length image) then body_seal version slot (sector_at image (body_sector slot)) else None

-- the valid seal of a slot: the one behind an open gate
unfoldable pub seal_at : (version : ℕ) → Image → (slot : ℕ) → Option Seal
seal_at version image slot = if gate_is_open image slot then behind version image slot else None

-- the one of the higher group
abbrev pub higher : Option Seal → Option Seal → Option Seal
higher None other = other
higher (Some best) None = Some best
higher (Some best) (Some seal) = if nat_lt best.group seal.group then Some seal else Some best

-- the one of the highest group among the first so many
abbrev pub highest : (ℕ → Option Seal) → (count : ℕ) → Option Seal
highest seals zero = None
highest seals (suc count) = higher (highest seals count) (seals count)

-- the seal that counts: the valid one of the highest group
unfoldable pub newest : (version : ℕ) → Image → Option Seal
newest version image = highest (seal_at version image) slot_count
