use Rattle.std.proofs.Common.{◌≡◌, ◌+◌, take}
use Rattle.std.specs.Prelude.{sum_by}
use Rattle.ddt_entry.specs.declared.entry.Entry.{Entry}
use Rattle.pool_import.proofs.judge_counts.sum_is.Given as goal

abbrev pub invariant-homes : goal.invariant-homes
invariant-homes l = l.left + sum_by (λ (entry : Entry). entry.home.count) (take l.entry-index l.homes) ≡ l.counts
