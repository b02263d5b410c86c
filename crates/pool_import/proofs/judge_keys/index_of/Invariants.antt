use Rattle.std.proofs.Common.{◌≡◌, ◌-◌, ◌≤◌, true, length, take, drop}
use Rattle.std.specs.List.{AllByRecursion}
use Rattle.std.specs.Ordering.{is_lt}
use Rattle.ddt_entry.specs.Keys.{key_cmp}
use Rattle.ddt_entry.specs.declared.entry.Entry.{Entry}
use Rattle.pool_import.proofs.judge_keys.index_of.Given as goal

abbrev pub invariant-halves : goal.invariant-halves
invariant-halves l = record {
  order : l.low ≤ l.high;
  within : l.high ≤ length l.entries;
  below : AllByRecursion (λ (e : Entry). is_lt (key_cmp e.key l.key) ≡ true) (take l.low l.entries);
  above : AllByRecursion (λ (e : Entry). is_lt (key_cmp l.key e.key) ≡ true) (drop l.high l.entries);
}

abbrev pub decreases-halves : goal.decreases-halves
decreases-halves l = l.high - l.low
