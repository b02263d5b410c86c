use Rattle.plain_table.proofs.Entries.{is_rising}
use Rattle.plain_table.proofs.change_map.ChangeMap.walk.Goals as goal

pub returns-clause-rising : goal.returns-clause-rising
returns-clause-rising c = is_rising (record { keyed = c.self.invariant; seen = c.self.view_is }) c.values.ensures.ordered
