-- A group is closed and sealed, or refused.
use Rattle.std.proofs.Common.{◌+◌, ◌∙◌, Err, List, ap, map, subst, Option}
use Rattle.disk_model.specs.Images.{Image}
use Rattle.disk_model.specs.DiskLaws.{Stays}
use Rattle.pool_model.specs.declared.notes.LaneNote.{LaneNote}
use Rattle.pool_model.specs.Plain.{lane_told, told_of}
use Rattle.pool_model.specs.Run.{kind_of}
use Rattle.table_state.specs.Closing.{closed_of}
use Rattle.session.specs.StageGroups.{outcome_by}
use Rattle.session.proofs.Sealing.{can_over}
use Rattle.session.proofs.Unsealed.{refused_went, went_since, has_run, noted_refused}
use Rattle.session.proofs.group_item.run_group.Goals as goal

pub seal_run-requires-clause-over : goal.seal_run-requires-clause-over
seal_run-requires-clause-over g c κs outlives =
    can_over (g.D.Disk.state c.args.disk.now).seen (g.D.Disk.state c.close_group.new.disk).seen c.args.pool.now (closed_of c.in-Ok.closed)
    (c.crash_laws.ensures.untold c.close_group.new.disk) c.close_group.ensures.stays c.requires.on_disk.told
    (λ image s told over. (c.in-Ok.ensures.closes image s c.requires.is.0 told over c.requires.is.1).can_sync)

pub returns-in-Ok-clause-went : goal.returns-in-Ok-clause-went
returns-in-Ok-clause-went g c s group over is apart =
    went_since _ (g.K.KeyOf.keying c.args.keyer.now) c.args.pool.now s over c.requires.on_disk.tag_is
    _ c.close_group.ensures.stays c.close_group.ensures.crash c.close_group.ensures.any_moment group
    _ (told_of c.seal_run.new.note) c.seal_run.new.pool c.seal_run.result
    (c.seal_run.ensures.went (g.K.KeyOf.keying c.args.keyer.now) s group
    (has_run _ (g.K.KeyOf.keying c.args.keyer.now) c.args.pool.now s over c.requires.on_disk.tag_is
    _ c.close_group.ensures.stays c.close_group.ensures.crash c.close_group.ensures.any_moment group
    (told_of c.close_group.new.note) c.in-Ok.taken (closed_of c.in-Ok.closed) apart
    (λ image stand told stands. c.in-Ok.ensures.closes image stand group told stands is)
    (told_of c.args.note.now) (c.requires.new group is) c.close_group.ensures.kept))

pub returns-in-Ok-clause-ended : goal.returns-in-Ok-clause-ended
returns-in-Ok-clause-ended g c image status told failed =
    c.seal_run.ensures.ended image status
    (subst (λ (o : Option Image). Stays o (g.D.Disk.state c.close_group.new.disk).seen) told c.close_group.ensures.stays) failed

pub returns-in-Err-clause-went : goal.returns-in-Err-clause-went
returns-in-Err-clause-went g c s group over is apart =
    refused_went _ (g.K.KeyOf.keying c.args.keyer.now) c.args.pool.now s over c.requires.on_disk.tag_is
    _ c.close_group.ensures.stays c.close_group.ensures.crash c.close_group.ensures.any_moment group
    c.in-Err.fault (told_of c.refuse.new.note) c.refuse.result c.refuse.ensures.answered
    (noted_refused (told_of c.refuse.new.note) (told_of c.close_group.new.note) (told_of c.args.note.now) (c.args.pool.now.group + 1)
    (kind_of group) (outcome_by c.in-Err.fault)
    c.refuse.ensures.noted c.close_group.ensures.kept
    (ap (λ (notes : List LaneNote). map lane_told notes) c.in-Err.ensures.unnoted) (c.requires.new group is))
    (λ needed left same. c.close_group.ensures.no_space over.image s group needed left over.told over.stands is (c.in-Err.is ∙ ap Err same))
