-- What the table finds then is a change's, or was found and isn't changed.
use Rattle.std.proofs.Common.{◌≡◌, ◌∙◌, sym, subst}
use Rattle.std.specs.List.{AllByRecursion}
use Rattle.ddt_entry.specs.declared.entry.Entry.{Entry}
use Rattle.image_tests.specs.Counts.{StaysAtMost}
use Rattle.image_tests.proofs.Counting.{found_counts}
use Rattle.image_tests.proofs.Rising.{rising}
use Rattle.image_tests.proofs.in_range.table_counts.Goals as goal
use Rattle.std.proofs.Common.{List}

pub returns : goal.returns
returns c all key home there =
    found_counts c.args.most c.args.changes.now key c.args.table.now.table c.requires.sorted
    (rising c.args.changes.now (sym c.are_rising.ensures ∙ c.if-not-are_rising.false))
    (subst (AllByRecursion (StaysAtMost c.args.most c.args.changes.now)) (c.as_slice.ensures.value ∙ c.in_ok-homes.ensures)
    (c.homes_count.ensures c.if-not-homes_count.false))
    (c.changes_count.ensures all) home there
