-- A crash leaves what stood or the new pool, by the stages of its seal.
use Rattle.std.proofs.Common.{Err, ap, arith, subst, sym, ◌∙◌}
use Rattle.table_state.specs.Pools.{Held}
use Rattle.session.proofs.Imported.{told_created}
use Rattle.disk_model.specs.DiskLaws.{TellsImage}
use Rattle.session.specs.StageMaking.{IsNotMade}
use Rattle.session.proofs.Made.{new_pool, not_made, told_unmade}
use Rattle.session.proofs.making.seal_empty_pool.Goals as goal

pub returns-in-Ok-clause-made : goal.returns-in-Ok-clause-made
returns-in-Ok-clause-made g c image told =
    new_pool c.args.tag (g.D.Disk.state c.args.disk.now).sectors image _ _ told
    (subst (λ n. TellsImage n (g.D.Disk.state c.args.disk.now).seen) c.sectors-sectors.ensures.count c.sectors-sectors.ensures.told)
    c.requires.enough c.requires.few c.requires.none c.in-Ok.pool (c.create-made.ensures.any_moment image told)
    c.in-Ok.ensures.made c.in-Ok.ensures.created c.in-Ok.ensures.durable

pub returns-in-Err-clause-made : goal.returns-in-Err-clause-made
returns-in-Err-clause-made g c image told =
    let tells = subst (λ n. TellsImage n (g.D.Disk.state c.args.disk.now).seen) c.sectors-sectors.ensures.count
    c.sectors-sectors.ensures.told in
    subst (IsNotMade (g.D.Disk.state c.args.disk.now) (g.D.Disk.state c.create-made.new.disk) c.args.tag image) (sym c.told.ensures)
    (record {
      stays = told_unmade c.args.tag (g.D.Disk.state c.args.disk.now).sectors image (g.D.Disk.state c.args.disk.now)
          (g.D.Disk.state c.create-made.new.disk) told tells c.requires.enough c.requires.few c.requires.none c.in-Err.fault
          (λ same. c.in-Err.ensures.unread (ap Err same))
          (λ same. c.in-Err.ensures.unread_crash (ap Err same))
          (λ same. c.in-Err.ensures.unbegun (ap Err same))
          (λ same. c.in-Err.ensures.beginning (ap Err same))
          (λ same. ap (λ disk. (g.D.Disk.state disk).seen) (c.in-Err.ensures.unwritten (ap Err same)))
          (λ same d left. subst (λ disk. (g.D.Disk.state disk).may_leave d) (c.in-Err.ensures.unwritten (ap Err same)) left)
          (λ sector same. c.in-Err.ensures.whole sector (ap Err same));
      crash = not_made c.args.tag (g.D.Disk.state c.args.disk.now).sectors image _ _ told tells
          c.requires.enough c.requires.few c.requires.none c.in-Err.fault c.crash_laws-2.ensures.here
          (c.create-made.ensures.any_moment image told)
          (λ same quiet. c.create-made.ensures.before_the_gate image told quiet (c.in-Err.is ∙ ap Err same))
          (λ same. c.in-Err.ensures.unread_crash (ap Err same))
          (λ same d left. subst (λ disk. (g.D.Disk.state disk).may_leave d) (c.in-Err.ensures.unwritten (ap Err same)) left)
          (λ sector same. c.in-Err.ensures.whole sector (ap Err same));
    })

pub returns-in-Ok-clause-on_disk : goal.returns-in-Ok-clause-on_disk
returns-in-Ok-clause-on_disk g c =
    record {
      sound = c.in-Ok.ensures.sound;
      there = omega (arith, ap (λ (h : Held). h.sectors) c.in-Ok.ensures.made, c.in-Ok.ensures.sectors);
      tag_is = ap (λ (h : Held). h.tag) c.in-Ok.ensures.made;
      told = told_created (g.D.Disk.state c.args.disk.now).seen (g.D.Disk.state c.create-made.new.disk).seen
          (g.D.Disk.state c.args.disk.now).sectors c.in-Ok.pool (c.crash_laws.ensures.untold c.create-made.new.disk) c.in-Ok.ensures.created;
    }
