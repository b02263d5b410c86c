-- The pool in memory is that of a new seal.
use Rattle.std.proofs.Common.{◌∙◌, ap, sym, subst, rules}
use Rattle.disk_model.specs.DiskLaws.{TellsImage}
use Rattle.table_state.specs.Pools.{new_held}
use Rattle.table_state.specs.Sound.{IsSound}
use Rattle.table_state.proofs.Created.{new_is_sound}
use Rattle.txg_sync.proofs.Created.{all_but_gate, beginning_left, creates_of}
use Rattle.txg_sync.proofs.creating.create.Goals as goal

pub returns-clause-sound : goal.returns-clause-sound
returns-clause-sound g c =
    subst IsSound (sym (c.in-Ok.ensures ∙ ap (new_held c.args.tag) c.sectors.ensures.count))
    (new_is_sound c.args.tag (g.D.Disk.state c.args.disk.now).sectors c.requires.enough c.requires.few)

pub returns-clause-created : goal.returns-clause-created
returns-clause-created g c =
    creates_of c.args.tag (g.D.Disk.state c.args.disk.now).sectors c.in-Ok.pool _ _
    (c.in-Ok.ensures ∙ ap (new_held c.args.tag) c.sectors.ensures.count)
    (subst (λ n. TellsImage n (g.D.Disk.state c.args.disk.now).seen) c.sectors.ensures.count c.sectors.ensures.told) c.requires.enough
    c.requires.few c.in_default-sealed.ensures.sealed

pub returns-in-Err-clause-at_the_gate : goal.returns-in-Err-clause-at_the_gate
returns-in-Err-clause-at_the_gate g c fault =
    all_but_gate c.args.tag (g.D.Disk.state c.args.disk.now).sectors _ _
    (subst (λ n. TellsImage n (g.D.Disk.state c.args.disk.now).seen) c.sectors.ensures.count c.sectors.ensures.told)
    (c.seal_new_pool-sealed.ensures.at_the_gate (search rules))

pub returns-in-Err-clause-beginning : goal.returns-in-Err-clause-beginning
returns-in-Err-clause-beginning g c fault = beginning_left c.args.tag _ _ (c.seal_new_pool-sealed.ensures.at_the_gate (search rules))
