use Rattle.std.proofs.Common.{◌≡◌, ◌∙◌, List, Some, length, map, rules, sym, ap, subst}
use Rattle.std.specs.Prelude.{not}
use Rattle.std.specs.List.{count_by}
use Rattle.std.proofs.lemmas.List.{length-map}
use Rattle.ddt_entry.specs.Keys.{Keying}
use Rattle.pool_model.specs.declared.commands.Command.{Command}
use Rattle.pool_model.specs.Plain.{Task, Told, told_of}
use Rattle.pool_model.specs.Mirrors.{task_of}
use Rattle.pool_model.specs.Group.{lanes_in_turn}
use Rattle.pool_model.specs.Table.{flush_limit}
use Rattle.lane_run.specs.Groups.{IsRunFrom}
use Rattle.lane_run.specs.Going.{HasRunFree}
use Rattle.lane_run.proofs.Whole.{run_from, room_same, unopened, over_told, told_still}
use Rattle.lane_run.proofs.run.run_group_plain.Goals as goal

pub returns-in_err-opens-clause-no_space : goal.returns-in_err-opens-clause-no_space
returns-in_err-opens-clause-no_space g c needed left is =
    unopened _ _ (g.D.Disk.state c.args.disk.now).write_faults
    (g.D.Disk.state c.opens.new.disk).write_faults c.opens.result c.from_residual.result needed left (search rules) c.opens.ensures.opens
    (room_same (count_by not c.args.pool.now.used) (length c.args.pool.now.pages) (flush_limit c.args.pool.now.table) c.len-writes.result
    (map task_of c.args.group.now.commands.items) c.requires.writes
    (c.len-writes.ensures ∙ sym (length-map c.args.group.now.commands.items task_of)))
    is

pub returns-clause-room : goal.returns-clause-room
returns-clause-room g c =
    sym (room_same (count_by not c.args.pool.now.used) (length c.args.pool.now.pages)
    (flush_limit c.args.pool.now.table) c.len-writes.result (map task_of c.args.group.now.commands.items) c.requires.writes
    (c.len-writes.ensures ∙ sym (length-map c.args.group.now.commands.items task_of)))
    ∙ c.in_ok-opens.ensures.opens

pub returns-clause-run : goal.returns-clause-run
returns-clause-run g c image s told over =
    let keying : Keying = g.K.KeyOf.keying c.args.keyer.now in
    let commands : List Command = c.args.group.now.commands.items in
    let tasks : List Task = map task_of c.args.group.now.commands.items in
    let told_then : (g.D.Disk.state c.opens.new.disk).seen ≡ Some image =
    told_still (g.D.Disk.state c.args.disk.now).seen (g.D.Disk.state c.opens.new.disk).seen image c.opens.ensures.stays told in
    let has : HasRunFree (g.D.Disk.state c.opens.new.disk).seen keying.key_of c.args.pool.now c.args.group.now.moment tasks
    c.in_ok-live.faults c.in_ok-live.live =
    rw c.as_slice-commands.ensures at c.in_ok-live.ensures.run in
    let note_is = ap (λ (t : Told). t.lanes) (rw c.as_slice-commands.ensures at c.in-Ok.ensures.noted) in
    let few = rw (sym (length-map c.args.group.now.commands.items task_of)) at c.requires.few in
    let room =
    sym (room_same (count_by not c.args.pool.now.used) (length c.args.pool.now.pages)
    (flush_limit c.args.pool.now.table) c.len-writes.result tasks c.requires.writes
    (c.len-writes.ensures ∙ sym (length-map c.args.group.now.commands.items task_of))) ∙ c.in_ok-opens.ensures.opens in
    subst (IsRunFrom (lanes_in_turn keying) image c.args.pool.now s c.args.group.now.moment tasks (told_of c.ended.new.note))
    (sym c.in-Ok.ensures.group)
    (run_from keying image c.args.pool.now s over c.args.group.now.moment tasks c.requires.writes has.0 has.1 c.in_ok-live.live
    (Some image) c.in_ok-live.faults
    (over_told (g.D.Disk.state c.opens.new.disk).seen keying.key_of c.args.pool.now c.args.group.now.moment tasks has.0 c.in_ok-live.faults
    c.in_ok-live.live image told_then has.2) (λ i. Some image) few (told_of c.ended.new.note) note_is room)
