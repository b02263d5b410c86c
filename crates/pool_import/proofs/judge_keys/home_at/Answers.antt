use Rattle.std.proofs.Common.{sym}
use Rattle.pool_import.proofs.JudgingKeys.{found_none, home_there}
use Rattle.pool_import.proofs.judge_keys.home_at.Goals as goal

pub returns-in-None : goal.returns-in-None
returns-in-None c = sym (found_none c.args.entries.now c.args.key.now c.in-None.ensures.none)

pub returns-in-Some : goal.returns-in-Some
returns-in-Some c = home_there c.args.entries.now c.in-Some.at _ c.args.key.now c.requires c.in-Some.ensures.some
