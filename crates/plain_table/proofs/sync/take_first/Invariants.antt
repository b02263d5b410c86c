use Rattle.std.proofs.Common.{◌≡◌, ◌++◌, length}
use Rattle.plain_table.proofs.sync.take_first.Given as goal

-- the changes that left, and then those that are left, are all
abbrev pub invariant-changes : goal.invariant-changes
invariant-changes l = (l.left.items ++ l.log ≡ l.initial.log) × (length l.left.items ≡ l.counter)
