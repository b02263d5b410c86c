use Rattle.std.proofs.Common.{sym, subst}
use Rattle.plain_table.specs.Keyed.{AreKeyed}
use Rattle.plain_table.proofs.Entries.{is_removed, keyed_removed}
use Rattle.plain_table.proofs.change_map.ChangeMap.remove.Goals as goal

pub invariant_of-self : goal.invariant_of-self
invariant_of-self c = subst AreKeyed (sym c.remove.ensures.entries) (keyed_removed c.args.key.now _ c.self.invariant)

pub returns : goal.returns
returns c =
    is_removed (record { keyed = c.self.invariant; seen = c.self.view_is }) c.args.key.now c.len-len.ensures.ordered
    c.remove.ensures.entries
