use Rattle.std.proofs.Common.{◌≡◌, ◌++◌}
use Rattle.std.specs.Map.{values_of}
use Rattle.plain_table.proofs.change_map.ChangeMap.changes.Given as goal

-- the changes so far, and then those that are left, are all
abbrev pub invariant-changes : goal.invariant-changes
invariant-changes l = l.list.items ++ values_of l.key-iterator ≡ l.self
