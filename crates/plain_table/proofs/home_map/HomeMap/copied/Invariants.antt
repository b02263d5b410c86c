use Rattle.std.proofs.Common.{◌≡◌, List, fold}
use Rattle.ddt_entry.specs.declared.entry.Entry.{Entry}
use Rattle.pool_model.specs.Table.{set_entry}
use Rattle.plain_table.specs.HomeLists.{entries_of}
use Rattle.plain_table.proofs.home_map.HomeMap.copied.Given as goal

-- what is left, put into the copy, makes the whole
abbrev pub invariant-homes : goal.invariant-homes
invariant-homes l = fold (λ (es : List Entry) entry. set_entry entry es) l.copy (entries_of l.key-iterator) ≡ l.self
