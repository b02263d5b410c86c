-- How a status is told: by a number and by a text; and which one a fault of the disk's is.
use Rattle.std.specs.Prelude.{ℕ, List, [], ◌++◌, codes}
use Rattle.std.specs.Fmt.{decimal}
use Rattle.pool_model.specs.declared.faults.SyncFault.{SyncFault}
use Rattle.pool_model.specs.declared.faults.SyncFault.TheVariants as syncs
use Rattle.pool_model.specs.declared.notes.BadKind.{BadKind}
use Rattle.pool_model.specs.declared.notes.BadKind.TheVariants.{Size, Form, Range, Many, Open}
use Rattle.session.specs.declared.status.Status.{Status}
use Rattle.session.specs.declared.status.Status.TheVariants.{Done, Usage, BadFile, SourceFault, SinkFault, ReadFault, WriteFault, NoPool, Damaged, OutOfMemory, PoolExists, BadSize, LastGroup}

abbrev pub code_of : Status → ℕ
code_of Done = 0
code_of Usage = 1
code_of (BadFile line kind) = 2
code_of SourceFault = 3
code_of SinkFault = 4
code_of ReadFault = 5
code_of WriteFault = 6
code_of NoPool = 7
code_of (Damaged sector) = 8
code_of OutOfMemory = 9
code_of (PoolExists group) = 10
code_of (BadSize sectors) = 11
code_of (LastGroup group) = 13

abbrev pub kind_name : BadKind → List ℕ
kind_name Size = codes "size"
kind_name Form = codes "form"
kind_name Range = codes "range"
kind_name Many = codes "many"
kind_name Open = codes "open"

abbrev pub fault_text : Status → List ℕ
fault_text Done = []
fault_text Usage = codes "usage"
fault_text (BadFile line kind) = codes "bad file: line " ++ decimal line ++ codes ": " ++ kind_name kind
fault_text SourceFault = codes "source fault"
fault_text SinkFault = codes "sink fault"
fault_text ReadFault = codes "read fault"
fault_text WriteFault = codes "write fault"
fault_text NoPool = codes "no pool"
fault_text (Damaged sector) = codes "damaged sector " ++ decimal sector
fault_text OutOfMemory = codes "out of memory"
fault_text (PoolExists group) = codes "pool exists: group " ++ decimal group
fault_text (BadSize sectors) = codes "bad size: " ++ decimal sectors
fault_text (LastGroup group) = codes "last group: " ++ decimal group

-- the status of a session that such a fault ends
abbrev pub status_of : SyncFault → Status
status_of syncs.ReadFault = ReadFault
status_of syncs.WriteFault = WriteFault
status_of syncs.GateFault = WriteFault
status_of (syncs.Damaged sector) = Damaged sector
status_of syncs.Memory = OutOfMemory
