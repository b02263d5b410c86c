-- What a session tells of, it tells as the pool's stage does.
use Rattle.session.proofs.looking.inspect.Goals as goal

pub returns-in-Some-Stat-clause-told : goal.returns-in-Some-Stat-clause-told
returns-in-Some-Stat-clause-told g c image told word = c.tell_pool.ensures.told image told
