-- What reading a command file answers.
use Rattle.std.specs.Prelude.{◌≡◌, ℕ, List, map, Option, Result, Ok, Err}
use Rattle.io_model.specs.Outside.{Rose, HasRead}
use Rattle.pool_model.specs.declared.commands.CommandFile.{CommandFile}
use Rattle.pool_model.specs.Mirrors.{part_of}
use Rattle.pool_model.specs.File.{file_of}
use Rattle.cmd_file.specs.declared.fault.FileFault.{FileFault}
use Rattle.cmd_file.specs.declared.fault.FileFault.TheVariants as faults
use Rattle.cmd_file.specs.Reading.{IsReadOut}

-- of a source with these bytes left and so many faults: the items of a file that was read to its end, the first bad line
-- of a file that was read out, or a fault of reading, which the source counted
abbrev pub Reads : (left rest : Option (List ℕ)) → (before now : ℕ) → Result CommandFile FileFault → Type 0
Reads left rest before now (Ok file) = (bytes : List ℕ) × HasRead left rest bytes × (file_of bytes ≡ Ok (map part_of file.items.items))
Reads left rest before now (Err (faults.Bad line kind)) = (bytes : List ℕ) × IsReadOut left rest bytes
    × (file_of bytes ≡ Err (record { line = line; kind = kind }))
Reads left rest before now (Err faults.SourceFault) = Rose before now
Reads left rest before now (Err faults.Memory) = Unit {0}
