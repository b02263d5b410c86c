use Rattle.std.proofs.Common.{◌≡◌, take, map}
use Rattle.std.specs.Prelude.{count_by}
use Rattle.ddt_entry.specs.declared.entry.Entry.{Entry}
use Rattle.pool_import.specs.Marks.{counts_for}
use Rattle.pool_import.proofs.judge_counts.tallies_of.Given as goal

abbrev pub invariant-spots : goal.invariant-spots
invariant-spots l = l.tallies.items ≡ map (λ (entry : Entry). count_by (counts_for entry.key) (take l.spot-index l.spots)) l.homes
