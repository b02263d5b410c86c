use Rattle.std.proofs.Common.{refl, ap, ◌∙◌, inl, inr, map, Err}
use Rattle.pool_model.specs.Group.{lanes_in_turn}
use Rattle.pool_model.specs.Mirrors.{part_of}
use Rattle.session.specs.Devices.{between}
use Rattle.session.specs.Running.{faults_in}
use Rattle.session.specs.declared.status.Status.TheVariants.{OutOfMemory}
use Rattle.session.proofs.ItemsGone.{told_before}
use Rattle.session.proofs.Sessions.{untouched, all_done, stopped_in, items_cause}
use Rattle.session.proofs.running.run_items.Goals as goal

pub returns-then-is_err-clause-ran : goal.returns-then-is_err-clause-ran
returns-then-is_err-clause-ran g c = λ image told.
    inr (untouched c.args.word (g.K.KeyOf.keying c.args.keyer.now).tag image (g.D.Disk.state c.args.disk.now)
    (g.W.Sink.written c.args.out.now) (g.W.Sink.faults c.args.out.now)
    (record { groups = c.reserve.new.self; sealed = c.args.session.now.sealed }) OutOfMemory told c.crash_laws.ensures.here
    (c.reserve.ensures.items ∙ c.requires.new.groups) c.requires.new.sealed refl refl)

pub returns-in-Ok-do_items-clause-ran : goal.returns-in-Ok-do_items-clause-ran
returns-in-Ok-do_items-clause-ran g c = λ image told.
    inl (all_done (g.D.Disk.state c.args.disk.now)
    (between (g.D.Disk.state c.open_pool-opened.new.disk) (g.D.Disk.state c.do_items.new.disk) (g.W.Sink.written c.args.out.now)
    (g.W.Sink.written c.do_items.new.out) (g.W.Sink.faults c.args.out.now) (g.W.Sink.faults c.do_items.new.out))
    c.args.word (lanes_in_turn (g.K.KeyOf.keying c.args.keyer.now)) image (map part_of c.args.items.now) c.do_items.new.session
    c.in-Ok.pool (c.in-Ok.ensures.opened image told) c.do_items.new.pool c.in-Ok-do_items.ensures.tagged c.in-Ok-do_items.ensures.done)

pub returns-clause-ran : goal.returns-clause-ran
returns-clause-ran g c = λ image told.
    inl (stopped_in (g.D.Disk.state c.args.disk.now)
    (between (g.D.Disk.state c.open_pool-opened.new.disk) (g.D.Disk.state c.do_items.new.disk) (g.W.Sink.written c.args.out.now)
    (g.W.Sink.written c.do_items.new.out) (g.W.Sink.faults c.args.out.now) (g.W.Sink.faults c.do_items.new.out))
    c.args.word (lanes_in_turn (g.K.KeyOf.keying c.args.keyer.now)) image (map part_of c.args.items.now) c.do_items.new.session
    c.in-Ok.pool (c.in-Ok.ensures.opened image told) c.in-Err-do_items.status
    (λ image told. c.in-Err-do_items.ensures.ended image c.in-Err-do_items.status told refl)
    (c.in-Err-do_items.ensures.stopped c.in-Err-do_items.status refl))

pub returns-clause-cause : goal.returns-clause-cause
returns-clause-cause g c =
    items_cause (g.D.Disk.state c.args.disk.now)
    (between (g.D.Disk.state c.open_pool-opened.new.disk) (g.D.Disk.state c.do_items.new.disk) (g.W.Sink.written c.args.out.now)
    (g.W.Sink.written c.do_items.new.out) (g.W.Sink.faults c.args.out.now) (g.W.Sink.faults c.do_items.new.out))
    c.args.word (g.K.KeyOf.keying c.args.keyer.now).tag (faults_in c.do_items.new.session) c.in-Err-do_items.status
    (c.in-Err-do_items.ensures.devices c.in-Err-do_items.status refl)
    (λ image told.
    let mid = told_before (g.D.Disk.state c.open_pool-opened.new.disk).seen (g.D.Disk.state c.args.disk.now).seen image
    (c.crash_laws-2.ensures.untold c.args.disk.now) told in
    c.in-Err-do_items.ensures.ended mid.0 c.in-Err-do_items.status mid.1 refl)
    c.in-Ok.ensures.reads c.in-Ok.ensures.writes
    (λ same. c.in-Err-do_items.ensures.read_cause (ap Err same)) (λ same. c.in-Err-do_items.ensures.write_cause (ap Err same))
    (λ same. c.in-Err-do_items.ensures.sink_cause (ap Err same))
