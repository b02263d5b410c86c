use Rattle.live_core.proofs.Leading.{stays_known, known_after, loaded_once}
use Rattle.live_core.proofs.laws.keys_are_loaded_once.Goals as goal

pub returns-clause-known : goal.returns-clause-known
returns-clause-known c = stays_known

pub returns-clause-once : goal.returns-clause-once
returns-clause-once c = loaded_once

pub returns-clause-after : goal.returns-clause-after
returns-clause-after c = known_after
