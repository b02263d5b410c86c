use Rattle.std.proofs.Common.{◌≡◌, List, fold}
use Rattle.std.specs.Map.{values_of}
use Rattle.ddt_entry.specs.declared.entry.Change.{Change}
use Rattle.pool_model.specs.Table.{set_change}
use Rattle.plain_table.proofs.change_map.ChangeMap.copied.Given as goal

-- what is left, put into the copy, makes the whole
abbrev pub invariant-changes : goal.invariant-changes
invariant-changes l = fold (λ (cs : List Change) change. set_change change cs) l.copy (values_of l.key-iterator) ≡ l.self
