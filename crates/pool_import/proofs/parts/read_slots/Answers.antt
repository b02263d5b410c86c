use Rattle.std.proofs.Common.{Some, refl}
use Rattle.std.specs.Prelude.{is_none}
use Rattle.table_state.specs.SlotRecords.{slot_in}
use Rattle.pool_import.proofs.Readings.{no_reading}
use Rattle.pool_import.proofs.parts.read_slots.Goals as goal

pub returns-clause-damaged : goal.returns-clause-damaged
returns-clause-damaged g c sector fault =
    no_reading (slot_in c.args.sectors c.args.group) Some is_none (λ slot. refl) (g.D.Disk.state c.args.disk.now).seen
    c.args.named.now.items c.args.root.now c.read_records.new.named.items c.in_ok-records.records.items
    c.in_ok-records.ensures.read (c.slots_of.ensures.damaged sector fault).1
