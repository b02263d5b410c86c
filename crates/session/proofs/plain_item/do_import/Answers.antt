-- An import leaves what stands, and tells its group.
use Rattle.std.proofs.Common.{◌∙◌, Err, None, [], ap, subst, sym}
use Rattle.std.proofs.KnownBytes.{Keeps-refl}
use Rattle.pool_model.specs.declared.commands.Item.{Item}
use Rattle.pool_model.specs.Group.{lanes_in_turn}
use Rattle.pool_model.specs.Mirrors.{part_of}
use Rattle.table_state.specs.Pools.{Held}
use Rattle.session.specs.Devices.{between}
use Rattle.session.proofs.ItemEnds.{IsPlain, import_text, plain_stopped, told_went}
use Rattle.session.proofs.Over.{over_leaves}
use Rattle.session.proofs.Unsealed.{nothing_new}
use Rattle.session.proofs.plain_item.do_import.Goals as goal

pub returns-clause-went : goal.returns-clause-went
returns-clause-went g c s over =
    let keying = g.K.KeyOf.keying c.args.keyer.now in
    let now = c.in_default.ensures.over s over in
    let sealed_is = ap (λ (h : Held). h.group) c.pool.view_is ∙ now.stands.is_held.group_is in
    told_went
    (between (g.D.Disk.state c.args.disk.now) (g.D.Disk.state c.import_again.new.disk) (g.W.Sink.written c.args.out.now)
    (g.W.Sink.written c.write_item.new.out)
    (g.W.Sink.faults c.args.out.now) (g.W.Sink.faults c.write_item.new.out))
    (lanes_in_turn keying) s c.import_again.new.pool c.pool.inside.sealed sealed_is
    (nothing_new _ keying c.args.pool.now s over c.requires.on_disk.tag_is [] c.import_again.ensures.any_moment)
    (part_of c.args.item.now) (subst (λ (i : Item). IsPlain (part_of i)) (sym c.requires.is) tt)
    c.tell.result c.write_item.result _ c.tell.ensures c.write_item.ensures
    (import_text c.args.item.now c.requires.is _ c.pool.inside.sealed None s.pool sealed_is) now
    (λ image left. over_leaves _ c.args.pool.now s keying.tag over c.requires.on_disk.tag_is image
    (c.import_again.ensures.no_more image left))

pub returns-in-Err-clause-went : goal.returns-in-Err-clause-went
returns-in-Err-clause-went g c s over =
    let keying = g.K.KeyOf.keying c.args.keyer.now in
    plain_stopped
    (between (g.D.Disk.state c.args.disk.now) (g.D.Disk.state c.import_again.new.disk) (g.W.Sink.written c.args.out.now)
    (g.W.Sink.written c.args.out.now)
    (g.W.Sink.faults c.args.out.now) (g.W.Sink.faults c.args.out.now))
    (lanes_in_turn keying) s c.import_again.new.pool c.args.session.now.sealed (c.requires.sealed ∙ over.stands.is_held.group_is)
    (nothing_new _ keying c.args.pool.now s over c.requires.on_disk.tag_is [] c.import_again.ensures.any_moment)
    (part_of c.args.item.now) (subst (λ (i : Item). IsPlain (part_of i)) (sym c.requires.is) tt)
    c.in-Err.status (λ same. c.in-Err.ensures.device (ap Err same))
    (λ image left. over_leaves _ c.args.pool.now s keying.tag over c.requires.on_disk.tag_is image
    (c.import_again.ensures.no_more image left))
    (Keeps-refl (g.W.Sink.written c.args.out.now))
