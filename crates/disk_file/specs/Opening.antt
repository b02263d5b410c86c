-- What the opening of a file comes to.
use Rattle.std.specs.Prelude.{ℕ}
use Rattle.std.specs.declared.io.ErrorKind.{ErrorKind}
use Rattle.std.specs.declared.io.ErrorKind.TheVariants.{OutOfMemory}
use Rattle.disk_file.specs.declared.opening.OpenFault.{OpenFault}
use Rattle.disk_file.specs.declared.opening.OpenFault.TheVariants.{Refused, Memory}

-- an error of the operating system is want of memory where it says so, and else a refusal
abbrev pub fault_of : ErrorKind → OpenFault
fault_of OutOfMemory = Memory
fault_of kind = Refused
