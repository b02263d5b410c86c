-- What an image keeps of a pool's pointers.
use Rattle.std.specs.Prelude.{Some, take, map}
use Rattle.ddt_entry.specs.declared.entry.Pointer.{Pointer as SlotPointer}
use Rattle.ddt_entry.specs.declared.entry.SlotKind.{SlotKind}
use Rattle.ddt_entry.specs.declared.entry.SlotKind.TheVariants.{Plain, Flagged}
use Rattle.disk_model.specs.Images.{Image, sector_at}
use Rattle.pool_model.specs.declared.closed.SlotChange.{SlotChange}
use Rattle.pool_model.specs.Pool.{Pool, Pointer, Mark, plain, tracked, loose}
use Rattle.slot_table.specs.declared.slot.SlotRecord.{SlotRecord}

-- the kind under which a pointer with this mark is kept: whether the table counted it when it was written
abbrev pub kind_of : Mark → SlotKind
kind_of plain = Plain
kind_of (tracked since) = Flagged
kind_of loose = Flagged

-- what a slot's record keeps of a pointer
abbrev pub kept_of : Pointer → SlotPointer
kept_of p = record { kind = kind_of p.mark; key = p.key; place = p.place; birth = p.birth }

-- the slot record of a pointer
abbrev pub slot_of : Pointer → SlotRecord
slot_of p = record { lane = p.lane; slot = p.slot; pointer = kept_of p }

-- the change that brings a pointer to its slot
abbrev pub change_to : Pointer → SlotChange
change_to p = record { lane = p.lane; slot = p.slot; pointer = Some (kept_of p) }

-- a pointer with the bytes that an image has at its place, cut to its key's length
abbrev pub refilled : Image → Pointer → Pointer
refilled image p = record p { content = take p.key.len (sector_at image p.place) }

-- a pool with its pointers refilled from an image
abbrev pub refilled_pool : Image → Pool → Pool
refilled_pool image pool = record pool { pointers = map (refilled image) pool.pointers }
