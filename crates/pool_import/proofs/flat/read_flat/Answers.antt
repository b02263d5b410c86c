-- What each chain is or isn't, by the calls that read it.
use Rattle.std.proofs.Common.{rules}
use Rattle.pool_import.proofs.Flats.{no_slots, no_unique, no_duplicate, no_active, no_flushing, all_read}
use Rattle.pool_import.proofs.flat.read_flat.Goals as goal

pub returns-in_err-slots-clause-damaged : goal.returns-in_err-slots-clause-damaged
returns-in_err-slots-clause-damaged g c sector fault =
    no_slots c.args.seal.now (g.D.Disk.state c.args.disk.now).seen c.new-named.result.items c.new-named.ensures.items c.root-first.result
    c.root-first.ensures
    (c.read_slots.ensures.damaged sector (search rules))

pub returns-in_err-unique-clause-damaged : goal.returns-in_err-unique-clause-damaged
returns-in_err-unique-clause-damaged g c sector fault =
    no_unique c.args.seal.now (g.D.Disk.state c.args.disk.now).seen c.new-named.result.items c.new-named.ensures.items c.root-first.result
    c.root-first.ensures c.read_slots.new.named.items c.in_ok-slots.slots.items c.root-second.result c.root-second.ensures
    c.in_ok-slots.ensures.read (c.read_entries.ensures.damaged sector (search rules))

pub returns-in_err-duplicate-clause-damaged : goal.returns-in_err-duplicate-clause-damaged
returns-in_err-duplicate-clause-damaged g c sector fault =
    no_duplicate c.args.seal.now (g.D.Disk.state c.args.disk.now).seen c.new-named.result.items c.new-named.ensures.items
    c.root-first.result c.root-first.ensures c.read_slots.new.named.items c.in_ok-slots.slots.items c.root-second.result
    c.root-second.ensures c.read_entries.new.named.items c.in_ok-unique.unique.items c.root-third.result c.root-third.ensures
    c.in_ok-slots.ensures.read c.in_ok-unique.ensures.read (c.read_entries-2.ensures.damaged sector (search rules))

pub returns-in_err-active-clause-damaged : goal.returns-in_err-active-clause-damaged
returns-in_err-active-clause-damaged g c sector fault =
    no_active c.args.seal.now (g.D.Disk.state c.args.disk.now).seen c.new-named.result.items c.new-named.ensures.items c.root-first.result
    c.root-first.ensures c.read_slots.new.named.items c.in_ok-slots.slots.items c.root-second.result c.root-second.ensures
    c.read_entries.new.named.items c.in_ok-unique.unique.items c.root-third.result c.root-third.ensures c.read_entries-2.new.named.items
    c.in_ok-duplicate.duplicate.items c.root-fourth.result c.root-fourth.ensures
    c.in_ok-slots.ensures.read c.in_ok-unique.ensures.read c.in_ok-duplicate.ensures.read
    (c.read_changes.ensures.damaged sector (search rules))

pub returns-in_err-flushing-clause-damaged : goal.returns-in_err-flushing-clause-damaged
returns-in_err-flushing-clause-damaged g c sector fault =
    no_flushing c.args.seal.now (g.D.Disk.state c.args.disk.now).seen c.new-named.result.items c.new-named.ensures.items c.root-first.result
    c.root-first.ensures c.read_slots.new.named.items c.in_ok-slots.slots.items c.root-second.result c.root-second.ensures
    c.read_entries.new.named.items c.in_ok-unique.unique.items c.root-third.result c.root-third.ensures c.read_entries-2.new.named.items
    c.in_ok-duplicate.duplicate.items c.root-fourth.result c.root-fourth.ensures c.read_changes.new.named.items c.in_ok-active.active.items
    c.root-fifth.result c.root-fifth.ensures
    c.in_ok-slots.ensures.read c.in_ok-unique.ensures.read c.in_ok-duplicate.ensures.read c.in_ok-active.ensures.read
    (c.read_changes-2.ensures.damaged sector (search rules))

pub returns-clause-read : goal.returns-clause-read
returns-clause-read g c =
    all_read c.args.seal.now (g.D.Disk.state c.args.disk.now).seen c.new-named.result.items c.new-named.ensures.items c.root-first.result
    c.root-first.ensures c.read_slots.new.named.items c.in_ok-slots.slots.items c.root-second.result c.root-second.ensures
    c.read_entries.new.named.items c.in_ok-unique.unique.items c.root-third.result c.root-third.ensures c.read_entries-2.new.named.items
    c.in_ok-duplicate.duplicate.items c.root-fourth.result c.root-fourth.ensures c.read_changes.new.named.items c.in_ok-active.active.items
    c.root-fifth.result c.root-fifth.ensures c.read_changes-2.new.named.items c.in_ok-flushing.flushing.items
    c.in_ok-slots.ensures.read c.in_ok-unique.ensures.read c.in_ok-duplicate.ensures.read c.in_ok-active.ensures.read
    c.in_ok-flushing.ensures.read
