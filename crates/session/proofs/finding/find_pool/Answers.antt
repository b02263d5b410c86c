-- The pool that was found is what the disk still tells.
use Rattle.std.proofs.Common.{◌≡◌, ◌≤◌}
use Rattle.table_state.specs.Pools.{Held}
use Rattle.table_state.specs.Sound.{IsSound}
use Rattle.session.proofs.Imported.{IsFoundOver, of_found, found_on_disk}
use Rattle.session.proofs.finding.find_pool.Goals as goal

pub returns-in-Ok-Some-clause-on_disk : goal.returns-in-Ok-Some-clause-on_disk
returns-in-Ok-Some-clause-on_disk g c =
    found_on_disk (g.K.KeyOf.keying c.args.keyer.now).tag (g.D.Disk.state c.args.disk.now) (g.D.Disk.state c.import-found.new.disk)
    c.in-Ok-Some.pool (c.crash_laws.ensures.untold c.import-found.new.disk) c.import-found.ensures.stays
    (of_found IsSound c.in-Ok-Some.field-0 c.in-Ok-Some.pool c.in-Ok-Some.field-0-is c.in-Ok-Some.ensures.sound)
    (of_found (λ (held : Held). held.sectors ≤ (g.D.Disk.state c.import-found.new.disk).sectors)
    c.in-Ok-Some.field-0 c.in-Ok-Some.pool c.in-Ok-Some.field-0-is c.in-Ok-Some.ensures.on_disk)
    (of_found (λ (held : Held). (held.tag ≡ (g.K.KeyOf.keying c.args.keyer.now).tag)
    × IsFoundOver (g.D.Disk.state c.args.disk.now).seen held)
    c.in-Ok-Some.field-0 c.in-Ok-Some.pool c.in-Ok-Some.field-0-is c.in-Ok-Some.ensures.pool)
