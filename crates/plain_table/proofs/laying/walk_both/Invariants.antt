use Rattle.std.proofs.Common.{◌≡◌, ◌+◌, ◌≤◌, ◌++◌, length, fold}
use Rattle.pool_model.specs.Table.{AreRising, AreChangesRising, set_found}
use Rattle.plain_table.proofs.laying.walk_both.Given as goal

-- what was appended so far, and then the changes to come over the entries that are left, is all
abbrev pub invariant-changes : goal.invariant-changes
invariant-changes l = record {
  all : l.list.items ++ fold set_found l.rest l.change-iterator ≡ fold set_found l.stored l.changes;
  entries_rise : AreRising l.rest;
  changes_rise : AreChangesRising l.change-iterator;
  room : length l.rest + length l.change-iterator ≤ l.list.spare;
}
