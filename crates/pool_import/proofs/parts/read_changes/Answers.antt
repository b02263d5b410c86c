use Rattle.std.proofs.Common.{Ok, refl}
use Rattle.std.specs.Prelude.{is_err}
use Rattle.ddt_entry.specs.Records.{change_in}
use Rattle.pool_import.proofs.Readings.{no_reading}
use Rattle.pool_import.proofs.parts.read_changes.Goals as goal

pub returns-clause-damaged : goal.returns-clause-damaged
returns-clause-damaged g c sector fault =
    no_reading change_in Ok is_err (λ change. refl) (g.D.Disk.state c.args.disk.now).seen c.args.named.now.items c.args.root.now
    c.read_records.new.named.items c.in_ok-records.records.items
    c.in_ok-records.ensures.read (c.changes_of.ensures.damaged sector fault).1
