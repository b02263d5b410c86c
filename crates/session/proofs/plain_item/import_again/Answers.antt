-- The pool that is imported again is the one that stood.
use Rattle.std.proofs.Common.{◌≡◌, ◌≤◌, ◌∙◌, ap, Err}
use Rattle.table_state.specs.Pools.{Held}
use Rattle.table_state.specs.Sound.{IsSound}
use Rattle.session.proofs.Imported.{IsFoundOver, found_over, found_on_disk, of_found, fault_ended, not_damaged}
use Rattle.session.proofs.plain_item.import_again.Goals as goal

pub returns-in-Ok-Some-clause-on_disk : goal.returns-in-Ok-Some-clause-on_disk
returns-in-Ok-Some-clause-on_disk g c =
    found_on_disk (g.K.KeyOf.keying c.args.keyer.now).tag (g.D.Disk.state c.args.disk.now) (g.D.Disk.state c.import-found.new.disk)
    c.in-Ok-Some.found (c.crash_laws.ensures.untold c.import-found.new.disk) c.import-found.ensures.stays
    (of_found IsSound c.in-Ok-Some.field-0 c.in-Ok-Some.found c.in-Ok-Some.field-0-is c.in-Ok-Some.ensures.sound)
    (of_found (λ (held : Held). held.sectors ≤ (g.D.Disk.state c.import-found.new.disk).sectors)
    c.in-Ok-Some.field-0 c.in-Ok-Some.found c.in-Ok-Some.field-0-is c.in-Ok-Some.ensures.on_disk)
    (of_found (λ (held : Held). (held.tag ≡ (g.K.KeyOf.keying c.args.keyer.now).tag)
    × IsFoundOver (g.D.Disk.state c.args.disk.now).seen held)
    c.in-Ok-Some.field-0 c.in-Ok-Some.found c.in-Ok-Some.field-0-is c.in-Ok-Some.ensures.pool)

pub returns-in-Ok-Some-clause-over : goal.returns-in-Ok-Some-clause-over
returns-in-Ok-Some-clause-over g c s over =
    let given : (c.in-Ok-Some.found.tag ≡ (g.K.KeyOf.keying c.args.keyer.now).tag)
    × IsFoundOver (g.D.Disk.state c.args.disk.now).seen c.in-Ok-Some.found =
    of_found (λ (held : Held). (held.tag ≡ (g.K.KeyOf.keying c.args.keyer.now).tag)
    × IsFoundOver (g.D.Disk.state c.args.disk.now).seen held)
    c.in-Ok-Some.field-0 c.in-Ok-Some.found c.in-Ok-Some.field-0-is c.in-Ok-Some.ensures.pool in
    found_over (g.K.KeyOf.keying c.args.keyer.now).tag _ _ c.args.pool.now c.in-Ok-Some.found s c.requires.on_disk.tag_is given.0 given.1
    over c.import-found.ensures.stays c.in-Ok-Some.ensures.durable

pub returns-in-Err-clause-ended : goal.returns-in-Err-clause-ended
returns-in-Err-clause-ended g c image status told failed =
    fault_ended c.in-Err.fault c.told.result status c.told.ensures failed
    (λ sector is. not_damaged (g.K.KeyOf.keying c.args.keyer.now).tag (g.D.Disk.state c.args.disk.now).seen c.args.pool.now image
    c.requires.on_disk.tag_is c.requires.on_disk.told told
    (c.import-found.ensures.damaged sector (c.in-Err.is ∙ ap (λ f. Err f) is)))
