use Rattle.std.proofs.Common.{◌≡◌, ◌++◌}
use Rattle.plain_table.specs.HomeLists.{entries_of}
use Rattle.plain_table.proofs.home_map.HomeMap.entries.Given as goal

-- the entries so far, and then those that are left, are all
abbrev pub invariant-homes : goal.invariant-homes
invariant-homes l = l.list.items ++ entries_of l.key-iterator ≡ l.self
