-- A group of an item is done, or the session ends in it.
use Rattle.std.proofs.Common.{◌≡◌, ◌∙◌, ⊎_elim, true, [], ◌∷◌, refl, ap, subst, sym}
use Rattle.pool_model.specs.Group.{lanes_in_turn}
use Rattle.pool_model.specs.Plain.{GroupItem, Part, told_of}
use Rattle.table_state.specs.Pools.{Held}
use Rattle.txg_sync.proofs.Stored.{on_ok}
use Rattle.session.specs.Devices.{between}
use Rattle.session.specs.Origins.{origin, may_begin}
use Rattle.session.specs.StageEntries.{IsOnDisk}
use Rattle.session.specs.StageItems.{HasNoClashIn, ItemWent}
use Rattle.session.specs.declared.status.Status.{Status}
use Rattle.session.proofs.ItemEnds.{group_went}
use Rattle.session.proofs.group_item.do_group.Goals as goal

pub returns-clause-went : goal.returns-clause-went
returns-clause-went g c s over apart =
    let told = told_of c.run_group-ended.new.note in
    let group : GroupItem = c.requires.is.0 in
    let is = c.requires.is.1 in
    let devices = between (g.D.Disk.state c.args.disk.now) (g.D.Disk.state c.run_group-ended.new.disk)
    (g.W.Sink.written c.args.out.now) (g.W.Sink.written c.end_group.new.out) (g.W.Sink.faults c.args.out.now)
    (g.W.Sink.faults c.end_group.new.out) in (
      told ∷ [],
      c.end_group.ensures.noted,
      subst
          (λ (part : Part). ItemWent devices (lanes_in_turn (g.K.KeyOf.keying c.args.keyer.now)) s part (told ∷ [])
          c.run_group-ended.new.pool c.end_group.new.session.sealed c.end_group.result) (sym is)
          (group_went devices (g.K.KeyOf.keying c.args.keyer.now) s group told
          c.run_group-ended.new.pool c.end_group.new.session.sealed c.pool-2.inside.sealed c.args.session.now.sealed
          c.run_group-ended.result c.end_group.result
          (c.run_group-ended.ensures.went s group over is (subst (HasNoClashIn (g.K.KeyOf.keying c.args.keyer.now).key_of s) is apart))
          (on_ok c.run_group-ended.result
          (IsOnDisk (g.D.Disk.state c.run_group-ended.new.disk) (g.K.KeyOf.keying c.args.keyer.now).tag c.run_group-ended.new.pool)
          (c.run_group-ended.new.pool.tag ≡ (g.K.KeyOf.keying c.args.keyer.now).tag)
          (λ (on_disk : IsOnDisk (g.D.Disk.state c.run_group-ended.new.disk) (g.K.KeyOf.keying c.args.keyer.now).tag c.run_group-ended.new.pool). on_disk.tag_is)
          c.run_group-ended.ensures.on_disk)
          (ap (λ (h : Held). h.group) c.pool-2.view_is) (c.requires.sealed ∙ over.stands.is_held.group_is)
          (λ failed. c.run_group-ended.ensures.device failed)
          (c.end_group.ensures.told group is)),
    )

pub returns-clause-ended : goal.returns-clause-ended
returns-clause-ended g c image status told failed =
    ⊎_elim (λ before. c.run_group-ended.ensures.ended image status told before)
    (λ by_sink. subst (λ (st : Status). may_begin (origin st) ≡ true) (sym by_sink) refl) (c.end_group.ensures.failed status failed)
