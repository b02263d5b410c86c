-- Which seals have the form of one, and what their numbers say.
use Rattle.std.specs.Prelude.{ℕ, ◌-◌, ◌^◌, Bool, ◌&&◌, ◌||◌, ◌==◌, nat_le, nat_lt, List, map, slice_get, Option, Some, None, if◌then◌else◌}
use Rattle.std.specs.List.{list_all}
use Rattle.ddt_entry.specs.declared.key.Key.{Key}
use Rattle.page_tree.specs.declared.pointer.PagePtr.{PagePtr}
use Rattle.uber_ring.specs.declared.seal.Seal.{Seal}
use Rattle.pool_model.specs.declared.commands.Mode.{Mode}
use Rattle.pool_model.specs.declared.commands.Mode.TheVariants.{Off, On, Verify}

-- the fewest and the most sectors of a pool
abbrev pub fewest_sectors : ℕ
fewest_sectors = 2048

abbrev pub most_sectors : ℕ
most_sectors = 1000000

-- the highest number of a group
abbrev pub last_group : ℕ
last_group = 2 ^ 62 - 1

abbrev pub is_flag : ℕ → Bool
is_flag flag = nat_le flag 1

-- the group is one that a pool can have
abbrev pub has_group : Seal → Bool
has_group seal = nat_le 1 seal.group && nat_le seal.group last_group

-- the pool's sectors are a pool's, and the disk has them
abbrev pub has_size : (sectors : ℕ) → Seal → Bool
has_size sectors seal = nat_le fewest_sectors seal.sectors && nat_le seal.sectors most_sectors && nat_le seal.sectors sectors

-- the flags are flags
abbrev pub has_flags : Seal → Bool
has_flags seal = is_flag seal.quota_flag && is_flag seal.checkpoint_flag

-- each lane's byte is a mode's
abbrev pub has_modes : Seal → Bool
has_modes seal = list_all (λ mode. nat_le mode 2) seal.modes

-- a checkpoint stands only beside changes in the flushing log
abbrev pub has_checkpoint : Seal → Bool
has_checkpoint seal = (seal.checkpoint_flag == 0) || nat_lt 0 seal.flushing_changes

-- the form of a seal, for a key function with this tag, on a disk of so many sectors
abbrev pub is_formed : (tag sectors : ℕ) → Seal → Bool
is_formed tag sectors seal =
    (seal.tag == tag) && has_group seal && has_size sectors seal && has_flags seal && has_modes seal && has_checkpoint seal

-- the mode that a lane's byte says
abbrev pub mode_in : ℕ → Mode
mode_in byte = if byte == 0 then Off else (if byte == 1 then On else Verify)

abbrev pub modes_in : Seal → List Mode
modes_in seal = map mode_in seal.modes

-- the quota, whose number counts only where the flag is set
abbrev pub quota_in : Seal → Option ℕ
quota_in seal = if seal.quota_flag == 1 then Some seal.quota else None

-- the checkpoint, whose key counts only where the flag is set
abbrev pub checkpoint_in : Seal → Option Key
checkpoint_in seal = if seal.checkpoint_flag == 1 then Some
    (record { digest = seal.checkpoint_digest; len = seal.checkpoint_len }) else None

-- the roots of a seal, in their order
abbrev pub slots_root : Seal → Option PagePtr
slots_root seal = slice_get seal.pointers 0

abbrev pub unique_root : Seal → Option PagePtr
unique_root seal = slice_get seal.pointers 1

abbrev pub duplicate_root : Seal → Option PagePtr
duplicate_root seal = slice_get seal.pointers 2

abbrev pub active_root : Seal → Option PagePtr
active_root seal = slice_get seal.pointers 3

abbrev pub flushing_root : Seal → Option PagePtr
flushing_root seal = slice_get seal.pointers 4
