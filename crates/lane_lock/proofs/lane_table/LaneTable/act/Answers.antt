use Rattle.lane_lock.proofs.Acting.{may_pass, rests, answers}
use Rattle.lane_lock.proofs.lane_table.LaneTable.act.Goals as goal

pub pass-requires-clause-can : goal.pass-requires-clause-can
pass-requires-clause-can g c κs within = may_pass _ record {
  first = c.args.self.now.table.shared.key.machine.value;
  step = c.args.step;
  answer = c.apply_in_hand-answer.result;
} c.args.place.now.me c.take_turn.new.place.me
    c.apply_in_hand-answer.new.place.me
    record {
      rest = c.requires.rest;
      told = c.requires.told;
      fits = c.requires.fits;
      room = c.requires.room;
      turn = c.take_turn.ensures.turn;
      applied = c.apply_in_hand-answer.ensures.applied;
    }

pub returns-clause-rest : goal.returns-clause-rest
returns-clause-rest g c = rests _ record {
  first = c.args.self.now.table.shared.key.machine.value;
  step = c.args.step;
  answer = c.apply_in_hand-answer.result;
} c.args.place.now.me c.take_turn.new.place.me
    c.apply_in_hand-answer.new.place.me c.pass.new.place.me
    record {
      rest = c.requires.rest;
      told = c.requires.told;
      fits = c.requires.fits;
      room = c.requires.room;
      turn = c.take_turn.ensures.turn;
      applied = c.apply_in_hand-answer.ensures.applied;
    }
    c.pass.ensures.passed

pub returns-clause-act : goal.returns-clause-act
returns-clause-act g c = answers _ record {
  first = c.args.self.now.table.shared.key.machine.value;
  step = c.args.step;
  answer = c.apply_in_hand-answer.result;
} _ _ c.args.place.now.me c.take_turn.new.place.me
    c.apply_in_hand-answer.new.place.me c.pass.new.place.me
    record {
      rest = c.requires.rest;
      told = c.requires.told;
      fits = c.requires.fits;
      room = c.requires.room;
      turn = c.take_turn.ensures.turn;
      applied = c.apply_in_hand-answer.ensures.applied;
    }
    c.pass.ensures.passed
