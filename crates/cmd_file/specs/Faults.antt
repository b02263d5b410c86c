-- How a function of the reader answers, by what the definition of a command file says of its bytes.
use Rattle.std.specs.Prelude.{◌≡◌, ℕ, List, map, Result, Ok, Err}
use Rattle.io_model.specs.declared.source.ReadFault.{ReadFault}
use Rattle.io_model.specs.declared.source.ReadFault.TheVariants as reads
use Rattle.pool_model.specs.declared.commands.CommandFile.{CommandFile}
use Rattle.pool_model.specs.declared.notes.BadKind.{BadKind}
use Rattle.pool_model.specs.Mirrors.{part_of}
use Rattle.pool_model.specs.File.{Bad, file_of}
use Rattle.cmd_file.specs.declared.fault.FileFault.{FileFault}
use Rattle.cmd_file.specs.declared.fault.FileFault.TheVariants as faults
use Rattle.cmd_file.specs.declared.fault.LineFault.{LineFault}
use Rattle.cmd_file.specs.declared.fault.LineFault.TheVariants as lines

-- what a fault of reading is to the reader of a file
abbrev pub fault_of_read : ReadFault → FileFault
fault_of_read reads.Source = faults.SourceFault
fault_of_read reads.Memory = faults.Memory

-- what a fault of a line is to the reader of a file
abbrev pub fault_at : (line : ℕ) → LineFault → FileFault
fault_at line (lines.Bad kind) = faults.Bad line kind
fault_at line lines.Memory = faults.Memory

-- of a line: the value, seen plainly, that the definition gives; what it says is wrong; or want of memory
abbrev pub Gives : {X Y : Type 0} → (view : X → Y) → Result X LineFault → (wanted : Result Y BadKind) → Type 0
Gives view (Ok value) wanted = wanted ≡ Ok (view value)
Gives view (Err (lines.Bad kind)) wanted = wanted ≡ Err kind
Gives view (Err lines.Memory) wanted = Unit {0}

-- of lines: the value, seen plainly, that the definition gives; the first bad line; or want of memory
abbrev pub Tells : {X Y : Type 0} → (view : X → Y) → Result X FileFault → (wanted : Result Y Bad) → Type 0
Tells view (Ok value) wanted = wanted ≡ Ok (view value)
Tells view (Err (faults.Bad line kind)) wanted = wanted ≡ Err (record { line = line; kind = kind })
Tells view (Err faults.SourceFault) wanted = ⊥
Tells view (Err faults.Memory) wanted = Unit {0}

-- what reading a file of these bytes gives: its items, seen plainly, or the first bad line, or want of memory
abbrev pub Parses : (bytes : List ℕ) → Result CommandFile FileFault → Type 0
Parses bytes result = Tells (λ file. map part_of file.items.items) result (file_of bytes)
