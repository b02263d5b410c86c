use Rattle.std.proofs.Common.{◌≡◌, ◌<◌, ℕ, length, get_or, sym, subst, ap, ◌∙◌, arith}
use Rattle.std.proofs.lemmas.List.{length-map}
use Rattle.pool_model.specs.Mirrors.{task_of, stored_of}
use Rattle.lane_run.specs.Groups.{IsFirstWrite}
use Rattle.lane_run.specs.Live.{Live}
use Rattle.lane_run.proofs.Lanes.{lane_opened, lane_push, lane_done, at_index, at_default}
use Rattle.lane_run.proofs.Ranges.{is_ready}
use Rattle.lane_run.proofs.InRange.{in_range}
use Rattle.lane_run.proofs.lane.run_lane.Goals as goal

pub commands-init : goal.commands-init
commands-init g c =
    rw c.in_ok-live.ensures
    (lane_opened (g.D.Disk.state c.args.disk.now).seen
    (g.K.KeyOf.keying c.args.keyer.now).key_of c.args.pool.now c.args.moment c.args.commands.now c.args.places.now c.args.keys
    (g.D.Disk.meter_faults c.args.meter.now) c.requires.counted)

pub turn-requires-clause-write : goal.turn-requires-clause-write
turn-requires-clause-write g c κs within =
    subst (λ x. IsFirstWrite (task_of x)) (sym c.command-item.is)
    (at_index IsFirstWrite task_of c.args.commands.now c.commands.command-index c.command-item.result c.commands-test.true
    c.requires.writes)

pub turn-requires-clause-ready : goal.turn-requires-clause-ready
turn-requires-clause-ready g c κs within =
    is_ready c.args.pool.now
    (g.D.Disk.state c.args.disk.now).sectors c.args.places.now c.args.keys c.commands.command-index c.commands.live c.requires.sound
    c.requires.on_disk c.requires.few_keys (omega (arith, c.requires.few, c.commands-test.true)) c.commands.invariant.ranged

pub commands-preserved : goal.commands-preserved
commands-preserved g c =
    let first =
    subst (λ x. IsFirstWrite (task_of x)) (sym c.command-item.is)
    (at_index IsFirstWrite task_of c.args.commands.now c.commands.command-index c.command-item.result c.commands-test.true
    c.requires.writes) in
    let len_is : c.len.result ≡ length c.commands.live.contents =
    c.len.ensures ∙ sym (length-map c.live.inside.contents.items stored_of) ∙ ap (λ (l : Live). length l.contents) c.live.view_is in
    let place : ℕ = get_or c.args.places.now c.len.result 0 in
    let below : length c.commands.live.contents < length c.args.places.now =
    omega (arith, c.commands.invariant.ranged.brought.blocks_few, c.commands-test.true, c.requires.places.count) in
    let place_is : place ≡ get_or c.args.places.now (length c.commands.live.contents) place =
    ap (λ n. get_or c.args.places.now n 0) len_is ∙ at_default c.args.places.now (length c.commands.live.contents) 0 place below in
    lane_push (g.D.Disk.state c.args.disk.now).seen (g.K.KeyOf.keying c.args.keyer.now).key_of
    ((g.met.K.KeyOf g.world.𝓛 g.world.𝓜 g.world.𝓡 ((λ s x. x), (λ x. x), (λ x. x), λ x. x)).keeps_length c.args.keyer.now)
    c.args.pool.now c.args.moment c.args.commands.now c.args.places.now c.args.keys c.commands.command-index
    (g.D.Disk.meter_faults c.args.meter.now) (g.D.Disk.meter_faults c.commands.meter)
    (g.D.Disk.meter_faults c.turn.new.meter) c.commands.live c.in_ok-live-2.live c.command-item.result place
    c.requires.sound c.requires.moment c.requires.places c.commands-test.true c.command-item.is first c.commands.invariant place_is
    c.in_ok-live-2.ensures

pub returns-clause-run : goal.returns-clause-run
returns-clause-run g c =
    lane_done (g.D.Disk.state c.args.disk.now).seen
    (g.K.KeyOf.keying c.args.keyer.now).key_of c.args.pool.now c.args.moment c.args.commands.now c.args.places.now c.args.keys
    c.commands.command-index (g.D.Disk.meter_faults c.args.meter.now) (g.D.Disk.meter_faults c.commands.meter) c.commands.live
    (omega (arith, c.commands-test.false, c.commands.auto.command-index-end)) c.commands.invariant

pub returns-clause-in_range : goal.returns-clause-in_range
returns-clause-in_range g c =
    in_range c.args.pool.now c.args.places.now c.args.keys c.commands.command-index c.commands.live c.requires.sound
    c.commands.invariant.ranged
