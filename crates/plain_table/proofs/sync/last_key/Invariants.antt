use Rattle.std.proofs.Common.{◌≡◌, take, None}
use Rattle.std.specs.List.{last_or}
use Rattle.std.specs.Option.{option_map}
use Rattle.ddt_entry.specs.Changes.{key_in}
use Rattle.plain_table.proofs.sync.last_key.Given as goal

abbrev pub invariant-loop-change : goal.invariant-loop-change
invariant-loop-change l = l.last ≡ option_map key_in (last_or None (take l.change-index l.changes))
