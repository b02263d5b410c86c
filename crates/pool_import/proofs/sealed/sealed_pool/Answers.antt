-- Where a call found damage, nothing stands under the seal.
use Rattle.std.proofs.Common.{◌∙◌, rules, sym}
use Rattle.pool_import.proofs.Sealing.{unread, broken}
use Rattle.pool_import.proofs.Sounding.{sound_of, no_larger}
use Rattle.pool_import.proofs.sealed.sealed_pool.Goals as goal

pub returns-in_err-flat-clause-damaged : goal.returns-in_err-flat-clause-damaged
returns-in_err-flat-clause-damaged g c sector fault =
    unread c.args.tag c.args.seal.now (g.D.Disk.state c.args.disk.now).seen (c.read_flat.ensures.damaged sector (search rules))

pub returns-in_default-clause-damaged : goal.returns-in_default-clause-damaged
returns-in_default-clause-damaged g c sector fault =
    broken c.args.tag c.args.seal.now (g.D.Disk.state c.args.disk.now).seen c.in_ok-flat.flat c.in_ok-pool.field-0 c.in_ok-flat.ensures.read
    c.in_default.is c.in_ok-pool.ensures.broken

pub returns-clause-sound : goal.returns-clause-sound
returns-clause-sound g c =
    sound_of c.args.tag c.sectors.result c.args.seal.now c.in_ok-flat.flat c.in-Some.pool
    (sym c.is_formed.ensures ∙ c.if-not-is_formed.false) c.in_ok-flat.ensures.slots c.in_ok-flat.ensures.lengths (search rules)

pub returns-clause-on_disk : goal.returns-clause-on_disk
returns-clause-on_disk g c =
    no_larger c.args.tag c.sectors.result (g.D.Disk.state c.args.disk.now).sectors c.args.seal.now c.in_ok-flat.flat c.in-Some.pool
    (sym c.is_formed.ensures ∙ c.if-not-is_formed.false) c.sectors.ensures.count (search rules)
