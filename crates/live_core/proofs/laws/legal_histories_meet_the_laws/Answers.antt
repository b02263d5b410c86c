use Rattle.live_core.proofs.Recording.{answered_if_legal, loads_if_legal}
use Rattle.live_core.proofs.laws.legal_histories_meet_the_laws.Goals as goal

pub returns-clause-answered : goal.returns-clause-answered
returns-clause-answered c = answered_if_legal

pub returns-clause-loads : goal.returns-clause-loads
returns-clause-loads c = loads_if_legal
