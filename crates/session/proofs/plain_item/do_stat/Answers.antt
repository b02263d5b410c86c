-- A `stat` changes nothing, and tells the pool that stands.
use Rattle.std.proofs.Common.{◌≡◌, ◌∙◌, [], ap, subst, sym}
use Rattle.std.proofs.KnownBytes.{Keeps-refl}
use Rattle.disk_model.proofs.Moments.{started}
use Rattle.pool_model.specs.declared.commands.Item.{Item}
use Rattle.pool_model.specs.Group.{lanes_in_turn}
use Rattle.pool_model.specs.Mirrors.{part_of}
use Rattle.table_state.specs.Pools.{Held}
use Rattle.session.specs.Devices.{between}
use Rattle.session.specs.declared.status.Status.TheVariants.{SinkFault}
use Rattle.session.proofs.ItemEnds.{IsPlain, plain_stopped, pool_text, told_went}
use Rattle.session.proofs.Over.{over_leaves}
use Rattle.session.proofs.Unsealed.{nothing_new}
use Rattle.session.proofs.plain_item.do_stat.Goals as goal

pub returns-clause-went : goal.returns-clause-went
returns-clause-went g c s over =
    let keying = g.K.KeyOf.keying c.args.keyer.now in
    told_went
    (between (g.D.Disk.state c.args.disk.now) (g.D.Disk.state c.args.disk.now) (g.W.Sink.written c.args.out.now)
    (g.W.Sink.written c.write_item.new.out)
    (g.W.Sink.faults c.args.out.now) (g.W.Sink.faults c.write_item.new.out))
    (lanes_in_turn keying) s c.args.pool.now c.args.session.now.sealed (c.requires.sealed ∙ over.stands.is_held.group_is)
    (nothing_new _ keying c.args.pool.now s over c.requires.on_disk.tag_is [] (started _ c.crash_laws.ensures.here.only_now))
    (part_of c.args.item.now) (subst (λ (i : Item). IsPlain (part_of i)) (sym c.requires.is) tt)
    c.tell.result c.write_item.result _ c.tell.ensures c.write_item.ensures
    (pool_text c.args.item.now c.requires.is c.stats-stats.result c.pool.inside.sealed c.pool.inside.limit s.pool
    (c.stats-stats.ensures over.image s.pool s.table over.stands.is_held)
    (ap (λ (h : Held). h.group) c.pool.view_is ∙ over.stands.is_held.group_is)
    (ap (λ (h : Held). h.quota) c.pool.view_is ∙ over.stands.is_held.quota_is))
    over (over_leaves _ c.args.pool.now s keying.tag over c.requires.on_disk.tag_is)
