-- Where a status comes from.
use Rattle.std.specs.Prelude.{Bool, true, false}
use Rattle.session.specs.declared.status.Status.{Status}
use Rattle.session.specs.declared.status.Status.TheVariants.{Done, Usage, BadFile, SourceFault, SinkFault, ReadFault, WriteFault, NoPool, Damaged, OutOfMemory, PoolExists, BadSize, LastGroup}

-- all was done; the words, the command file, the disk's size, a pool where a new one was to be made, what else the disk holds, a fault of
-- the disk, want of memory, or a fault of the output ended it
pub data Origin : Type 0 where
  at_end : Origin
  of_words : Origin
  of_file : Origin
  of_size : Origin
  of_pool : Origin
  of_image : Origin
  of_disk : Origin
  of_memory : Origin
  of_output : Origin

abbrev pub origin : Status → Origin
origin Done = at_end
origin Usage = of_words
origin (BadFile line kind) = of_file
origin SourceFault = of_file
origin SinkFault = of_output
origin ReadFault = of_disk
origin WriteFault = of_disk
origin NoPool = of_image
origin (Damaged sector) = of_image
origin OutOfMemory = of_memory
origin (PoolExists group) = of_pool
origin (BadSize sectors) = of_size
origin (LastGroup group) = of_image

-- whether a session that began its items may end so, over a disk that tells its contents
abbrev pub may_begin : Origin → Bool
may_begin at_end = true
may_begin of_words = false
may_begin of_file = false
may_begin of_size = false
may_begin of_pool = false
may_begin of_image = false
may_begin of_disk = true
may_begin of_memory = true
may_begin of_output = true

-- whether a session may end so before its items
abbrev pub may_not_begin : Origin → Bool
may_not_begin at_end = false
may_not_begin of_words = false
may_not_begin of_file = true
may_not_begin of_size = true
may_not_begin of_pool = true
may_not_begin of_image = true
may_not_begin of_disk = true
may_not_begin of_memory = true
may_not_begin of_output = false

-- whether a session that ended so called no device
abbrev pub is_before_devices : Origin → Bool
is_before_devices at_end = false
is_before_devices of_words = true
is_before_devices of_file = true
is_before_devices of_size = true
is_before_devices of_pool = false
is_before_devices of_image = false
is_before_devices of_disk = false
is_before_devices of_memory = false
is_before_devices of_output = false
