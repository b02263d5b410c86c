use Rattle.std.proofs.Common.{refl, inr}
use Rattle.session.specs.declared.status.Status.TheVariants.{SourceFault, OutOfMemory}
use Rattle.session.proofs.Sessions.{untouched}
use Rattle.session.proofs.running.run.Goals as goal

pub returns-in-Err-Bad-clause-ran : goal.returns-in-Err-Bad-clause-ran
returns-in-Err-Bad-clause-ran g c = λ image word is told.
    inr (untouched word (g.K.KeyOf.keying c.args.keyer.now).tag image (g.D.Disk.state c.args.disk.now) (g.W.Sink.written c.args.out.now)
    (g.W.Sink.faults c.args.out.now) c.args.session.now _ told c.crash_laws.ensures.here c.requires.new.groups c.requires.new.sealed refl
    refl)

pub returns-in-Err-SourceFault-clause-ran : goal.returns-in-Err-SourceFault-clause-ran
returns-in-Err-SourceFault-clause-ran g c = λ image word is told.
    inr (untouched word (g.K.KeyOf.keying c.args.keyer.now).tag image (g.D.Disk.state c.args.disk.now) (g.W.Sink.written c.args.out.now)
    (g.W.Sink.faults c.args.out.now) c.args.session.now SourceFault told c.crash_laws.ensures.here c.requires.new.groups
    c.requires.new.sealed
    refl refl)

pub returns-in-Err-Memory-clause-ran : goal.returns-in-Err-Memory-clause-ran
returns-in-Err-Memory-clause-ran g c = λ image word is told.
    inr (untouched word (g.K.KeyOf.keying c.args.keyer.now).tag image (g.D.Disk.state c.args.disk.now) (g.W.Sink.written c.args.out.now)
    (g.W.Sink.faults c.args.out.now) c.args.session.now OutOfMemory told c.crash_laws.ensures.here c.requires.new.groups
    c.requires.new.sealed
    refl refl)
