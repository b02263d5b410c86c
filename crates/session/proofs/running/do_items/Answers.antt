use Rattle.std.proofs.Common.{◌≡◌, List, ◌∷◌, ◌++◌, map, take, drop, suc, refl, sym, subst, arith}
use Rattle.std.proofs.lemmas.List.{take_all}
use Rattle.cmd_file.specs.Items.{IsItem}
use Rattle.pool_model.specs.Group.{Rules, lanes_in_turn}
use Rattle.pool_model.specs.Plain.{Part}
use Rattle.pool_model.specs.Mirrors.{part_of}
use Rattle.lane_run.proofs.Lanes.{at_index}
use Rattle.session.specs.Devices.{Devices, between}
use Rattle.session.specs.StageGoing.{GoesOn, StopsIn}
use Rattle.session.specs.declared.status.Status.{Status}
use Rattle.session.specs.Entries.{last_start}
use Rattle.session.specs.Running.{told_in, faults_in}
use Rattle.session.proofs.ItemsGone.{split_of, gone_start, done_more, told_before, goes_more, goes_stop, reads_more, early_more, same_sectors}
use Rattle.session.proofs.running.do_items.Goals as goal

pub items-init : goal.items-init
items-init g c =
    gone_start (lanes_in_turn (g.K.KeyOf.keying c.args.keyer.now)) c.args.pool.now c.args.items.now c.args.session.now
    (g.D.Disk.state c.args.disk.now) (g.W.Sink.written c.args.out.now) (g.W.Sink.faults c.args.out.now)
    c.crash_laws.ensures.here c.requires.on_disk c.requires.early c.requires.sealed c.requires.room c.requires.new

pub items-preserved : goal.items-preserved
items-preserved g c =
    let part : Part = part_of c.item-item.result in
    let done : List Part = map part_of (take c.items.item-index c.args.items.now) in
    let rest : List Part = map part_of (drop (suc c.items.item-index) c.args.items.now) in
    let split : map part_of c.args.items.now ≡ done ++ part ∷ rest =
    split_of c.args.items.now c.items.item-index c.item-item.result c.items-test.true c.item-item.is in
    let devices : Devices =
    between (g.D.Disk.state c.args.disk.now) (g.D.Disk.state c.items.disk) (g.W.Sink.written c.args.out.now)
    (g.W.Sink.written c.items.out) (g.W.Sink.faults c.args.out.now) (g.W.Sink.faults c.items.out) in
    let rules : Rules = lanes_in_turn (g.K.KeyOf.keying c.args.keyer.now) in
    let went =
    goes_more rules c.args.pool.now (map part_of c.args.items.now) devices (g.D.Disk.state c.do_item-done.new.disk)
    (g.W.Sink.written c.do_item-done.new.out) (g.W.Sink.faults c.do_item-done.new.out) done rest part split
    c.items.invariant.going (told_in c.do_item-done.new.session) c.do_item-done.new.pool c.do_item-done.new.session.sealed
    c.in_default.ensures.went in
    record {
      sectors =
          same_sectors (g.D.Disk.state c.args.disk.now).sectors (g.D.Disk.state c.items.disk).sectors
          (g.D.Disk.state c.do_item-done.new.disk).sectors c.items.invariant.sectors c.in_default.ensures.sectors;
      on_disk = c.in_default.ensures.on_disk;
      early =
          early_more (g.D.Disk.state c.items.disk).seen (g.D.Disk.state c.do_item-done.new.disk).seen last_start c.items.pool.group
          c.do_item-done.new.pool.group c.items.item-index (c.crash_laws-in-items.ensures.untold c.do_item-done.new.disk)
          c.items.invariant.early c.in_default.ensures.next;
      sealed = c.in_default.ensures.sealed;
      room = omega (arith, c.items.invariant.room, c.in_default.ensures.room);
      going =
          subst
          (λ ps. GoesOn
          (between (g.D.Disk.state c.args.disk.now) (g.D.Disk.state c.do_item-done.new.disk) (g.W.Sink.written c.args.out.now)
          (g.W.Sink.written c.do_item-done.new.out) (g.W.Sink.faults c.args.out.now) (g.W.Sink.faults c.do_item-done.new.out))
          rules c.args.pool.now (map part_of c.args.items.now) ps (told_in c.do_item-done.new.session) c.do_item-done.new.pool
          c.do_item-done.new.session.sealed)
          (done_more c.args.items.now c.items.item-index c.item-item.result c.items-test.true c.item-item.is) went;
      reads =
          reads_more (g.D.Disk.state c.args.disk.now).read_faults (g.D.Disk.state c.items.disk).read_faults
          (g.D.Disk.state c.do_item-done.new.disk).read_faults (faults_in c.items.session) (faults_in c.do_item-done.new.session)
          c.items.invariant.reads c.in_default.ensures.reads c.in_default.ensures.faults;
      writes = omega (arith, c.items.invariant.writes, c.in_default.ensures.writes);
      sink = omega (arith, c.items.invariant.sink, c.in_default.ensures.sink);
    }

pub do_item-done-requires-clause-form : goal.do_item-done-requires-clause-form
do_item-done-requires-clause-form g c κs within =
    subst (λ x. IsItem (part_of x)) (sym c.item-item.is)
    (at_index IsItem part_of c.args.items.now c.items.item-index c.item-item.result c.items-test.true c.requires.form)

pub returns-in-Err-clause-stopped : goal.returns-in-Err-clause-stopped
returns-in-Err-clause-stopped g c = λ status is.
    let part : Part = part_of c.item-item.result in
    let done : List Part = map part_of (take c.items.item-index c.args.items.now) in
    let rest : List Part = map part_of (drop (suc c.items.item-index) c.args.items.now) in
    let split : map part_of c.args.items.now ≡ done ++ part ∷ rest =
    split_of c.args.items.now c.items.item-index c.item-item.result c.items-test.true c.item-item.is in
    let devices : Devices =
    between (g.D.Disk.state c.args.disk.now) (g.D.Disk.state c.items.disk) (g.W.Sink.written c.args.out.now)
    (g.W.Sink.written c.items.out) (g.W.Sink.faults c.args.out.now) (g.W.Sink.faults c.items.out) in
    let rules : Rules = lanes_in_turn (g.K.KeyOf.keying c.args.keyer.now) in
    subst
    (λ (e : Status). StopsIn
    (between (g.D.Disk.state c.args.disk.now) (g.D.Disk.state c.do_item-done.new.disk) (g.W.Sink.written c.args.out.now)
    (g.W.Sink.written c.do_item-done.new.out) (g.W.Sink.faults c.args.out.now) (g.W.Sink.faults c.do_item-done.new.out))
    rules c.args.pool.now (map part_of c.args.items.now) (told_in c.do_item-done.new.session) c.do_item-done.new.session.sealed e)
    (let same : c.in-Err.status ≡ status = cc in same)
    (goes_stop rules c.args.pool.now (map part_of c.args.items.now) devices (g.D.Disk.state c.do_item-done.new.disk)
    (g.W.Sink.written c.do_item-done.new.out) (g.W.Sink.faults c.do_item-done.new.out) done rest part split
    c.items.invariant.going (told_in c.do_item-done.new.session) c.do_item-done.new.pool c.do_item-done.new.session.sealed
    c.in-Err.status (λ image told. c.in-Err.ensures.ended image c.in-Err.status told refl) (c.in-Err.ensures.devices c.in-Err.status refl)
    c.in-Err.ensures.went)

pub returns-in-Err-clause-ended : goal.returns-in-Err-clause-ended
returns-in-Err-clause-ended g c = λ image status told is.
    let mid = told_before (g.D.Disk.state c.items.disk).seen (g.D.Disk.state c.args.disk.now).seen image
    (c.crash_laws-in-items.ensures.untold c.args.disk.now) told in
    c.in-Err.ensures.ended mid.0 status mid.1 is

pub returns-clause-done : goal.returns-clause-done
returns-clause-done g c =
    subst
    (λ xs. GoesOn
    (between (g.D.Disk.state c.args.disk.now) (g.D.Disk.state c.items.disk) (g.W.Sink.written c.args.out.now)
    (g.W.Sink.written c.items.out) (g.W.Sink.faults c.args.out.now) (g.W.Sink.faults c.items.out))
    (lanes_in_turn (g.K.KeyOf.keying c.args.keyer.now)) c.args.pool.now (map part_of c.args.items.now) (map part_of xs)
    (told_in c.items.session) c.items.pool c.items.session.sealed)
    (take_all c.items.item-index c.args.items.now (omega (arith, c.items-test.false))) c.items.invariant.going
