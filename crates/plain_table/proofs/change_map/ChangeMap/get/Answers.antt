use Rattle.std.proofs.Common.{refl}
use Rattle.plain_table.proofs.Entries.{is_found}
use Rattle.plain_table.proofs.change_map.ChangeMap.get.Goals as goal

pub returns : goal.returns
returns c = is_found (record { keyed = c.self.invariant; seen = c.self.view_is }) refl c.get.ensures.value
