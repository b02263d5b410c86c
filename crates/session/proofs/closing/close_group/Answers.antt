-- A group is closed as its kind is.
use Rattle.std.proofs.Common.{◌∙◌, List, [], map, ap, refl, subst, sym, Some}
use Rattle.std.specs.Prelude.{slice_set}
use Rattle.pool_model.specs.declared.commands.Item.TheVariants as items
use Rattle.pool_model.specs.declared.commands.Mode.{Mode}
use Rattle.pool_model.specs.declared.notes.LaneNote.{LaneNote}
use Rattle.pool_model.specs.declared.notes.Outcome.TheVariants.{NoSpace}
use Rattle.pool_model.specs.Group.{lanes_in_turn}
use Rattle.pool_model.specs.Mirrors.{task_of}
use Rattle.pool_model.specs.Plain.{GroupItem, lanes, prune, quota, set_mode, lane_told, told_of}
use Rattle.table_state.specs.Closing.{PlainClosed, IsInRange, closed_of}
use Rattle.table_state.specs.Pools.{Held}
use Rattle.session.specs.StageClosing.{ClosesFrom, unblocked}
use Rattle.session.proofs.ClosedLanes.{closes_lanes, group_of}
use Rattle.session.proofs.Prunes.{prune_closed, prune_lacks, prune_ranged}
use Rattle.session.proofs.Settled.{closes_mode, closes_quota, settings_in_range}
use Rattle.session.proofs.closing.close_group.Goals as goal

pub returns-in_ok-closed-in-Lanes-clause-closes : goal.returns-in_ok-closed-in-Lanes-clause-closes
returns-in_ok-closed-in-Lanes-clause-closes g c image s group told over is =
    subst
    (λ (other : GroupItem). ClosesFrom (lanes_in_turn (g.K.KeyOf.keying c.args.keyer.now)) image c.args.pool.now s other
    (told_of c.run_group_plain.new.note) 0 (closed_of c.in_ok-closed-in-Lanes.closed))
    (group_of c.args.item.now (items.Lanes c.in-Lanes.group) (lanes c.in-Lanes.group.moment (map task_of c.in-Lanes.group.commands.items))
    group c.in-Lanes.is refl is)
    (closes_lanes (g.K.KeyOf.keying c.args.keyer.now) image c.args.pool.now s c.in-Lanes.group.moment
    (map task_of c.in-Lanes.group.commands.items) (told_of c.run_group_plain.new.note) (closed_of c.in_ok-closed-in-Lanes.closed)
    (c.in_ok-closed-in-Lanes.ensures.run image s told over) c.in_ok-closed-in-Lanes.ensures.room)

pub returns-in_ok-closed-in-Quota-clause-in_range : goal.returns-in_ok-closed-in-Quota-clause-in_range
returns-in_ok-closed-in-Quota-clause-in_range g c =
    subst (IsInRange c.args.pool.now) (sym c.in_ok-closed-in-Quota.ensures.closed)
    (settings_in_range c.args.pool.now c.pool.inside.modes c.in-Quota.quota c.requires.on_disk.sound)

pub returns-in_ok-closed-in-Quota-clause-closes : goal.returns-in_ok-closed-in-Quota-clause-closes
returns-in_ok-closed-in-Quota-clause-closes g c image s group told over is =
    subst
    (λ (o : PlainClosed). ClosesFrom (lanes_in_turn (g.K.KeyOf.keying c.args.keyer.now)) image c.args.pool.now s group
    (told_of c.args.note.now) 0 o)
    (sym (c.in_ok-closed-in-Quota.ensures.closed
    ∙ ap (λ (h : Held). unblocked [] h.modes c.in-Quota.quota) c.pool.view_is))
    (subst
    (λ (other : GroupItem). ClosesFrom (lanes_in_turn (g.K.KeyOf.keying c.args.keyer.now)) image c.args.pool.now s other
    (told_of c.args.note.now) 0 (unblocked [] c.args.pool.now.modes c.in-Quota.quota))
    (group_of c.args.item.now (items.Quota c.in-Quota.quota) (quota c.in-Quota.quota) group c.in-Quota.is refl is)
    (closes_quota image c.args.pool.now s over (g.K.KeyOf.keying c.args.keyer.now) (told_of c.args.note.now)
    (ap (λ (notes : List LaneNote). map lane_told notes) c.requires.unnoted) c.in_ok-closed-in-Quota.ensures.room c.in-Quota.quota))

pub returns-in_ok-closed-in-SetMode-clause-in_range : goal.returns-in_ok-closed-in-SetMode-clause-in_range
returns-in_ok-closed-in-SetMode-clause-in_range g c =
    subst (IsInRange c.args.pool.now) (sym c.in_ok-closed-in-SetMode.ensures.closed)
    (settings_in_range c.args.pool.now c.with_mode-modes.result c.pool.inside.limit c.requires.on_disk.sound)

pub returns-in_ok-closed-in-SetMode-clause-closes : goal.returns-in_ok-closed-in-SetMode-clause-closes
returns-in_ok-closed-in-SetMode-clause-closes g c image s group told over is =
    subst
    (λ (o : PlainClosed). ClosesFrom (lanes_in_turn (g.K.KeyOf.keying c.args.keyer.now)) image c.args.pool.now s group
    (told_of c.args.note.now) 0 o)
    (sym (c.in_ok-closed-in-SetMode.ensures.closed
    ∙ ap (λ (modes : List Mode). unblocked [] modes c.pool.inside.limit) c.with_mode-modes.ensures
    ∙ ap (λ (h : Held). unblocked [] (slice_set h.modes c.in-SetMode.lane c.in-SetMode.mode) h.quota) c.pool.view_is))
    (subst
    (λ (other : GroupItem). ClosesFrom (lanes_in_turn (g.K.KeyOf.keying c.args.keyer.now)) image c.args.pool.now s other
    (told_of c.args.note.now) 0
    (unblocked [] (slice_set c.args.pool.now.modes c.in-SetMode.lane c.in-SetMode.mode) c.args.pool.now.quota))
    (group_of c.args.item.now (items.SetMode c.in-SetMode.lane c.in-SetMode.mode) (set_mode c.in-SetMode.lane c.in-SetMode.mode) group
    c.in-SetMode.is refl is)
    (closes_mode image c.args.pool.now s over (g.K.KeyOf.keying c.args.keyer.now) (told_of c.args.note.now)
    (ap (λ (notes : List LaneNote). map lane_told notes) c.requires.unnoted) c.in_ok-closed-in-SetMode.ensures.room c.in-SetMode.lane
    c.in-SetMode.mode))

pub returns-in-Prune-clause-in_range : goal.returns-in-Prune-clause-in_range
returns-in-Prune-clause-in_range g c =
    prune_ranged c.args.pool.now c.in-Prune.rule c.in-Prune.moment c.requires.on_disk.sound c.close_prune.result c.close_prune.ensures.closed

pub returns-in-Prune-clause-closes : goal.returns-in-Prune-clause-closes
returns-in-Prune-clause-closes g c image s group told over is =
    prune_closed c.args.pool.now c.in-Prune.rule c.in-Prune.moment image s over group
    (group_of c.args.item.now (items.Prune c.in-Prune.moment c.in-Prune.rule) (prune c.in-Prune.moment c.in-Prune.rule) group c.in-Prune.is
    refl is)
    (g.K.KeyOf.keying c.args.keyer.now) (told_of c.args.note.now)
    (ap (λ (notes : List LaneNote). map lane_told notes) c.requires.unnoted) c.close_prune.result c.close_prune.ensures.closed
    c.close_prune.ensures.taken c.close_prune.ensures.room

pub returns-in-Prune-clause-no_space : goal.returns-in-Prune-clause-no_space
returns-in-Prune-clause-no_space g c image s group needed left told over is failed =
    prune_lacks c.args.pool.now c.in-Prune.rule c.in-Prune.moment image s over group
    (group_of c.args.item.now (items.Prune c.in-Prune.moment c.in-Prune.rule) (prune c.in-Prune.moment c.in-Prune.rule) group c.in-Prune.is
    refl is)
    (Some (NoSpace needed left)) (c.close_prune.ensures.no_space needed left failed)
