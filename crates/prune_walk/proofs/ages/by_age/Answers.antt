use Rattle.std.proofs.Common.{rules}
use Rattle.std.specs.Ordering.{is_lt}
use Rattle.std.proofs.lemmas.List.Sorted.{answers_always, length_permutation}
use Rattle.ddt_entry.specs.declared.entry.Entry.{Entry}
use Rattle.prune_walk.specs.Candidates.{age_cmp}
use Rattle.prune_walk.proofs.AgeOrder.{entries_inserted}
use Rattle.prune_walk.proofs.Stable.{sorted_as}
use Rattle.prune_walk.proofs.ages.by_age.Goals as goal

pub returns-clause-sorted : goal.returns-clause-sorted
returns-clause-sorted c =
    let answers = answers_always _ _ _ (λ f a r f' called. search rules) in
    sorted_as entries_inserted _ _ (c.in_ok-sort_by.ensures.sorted (λ (a b : Entry). is_lt (age_cmp a b)) entries_inserted.order answers)
    (c.in_ok-sort_by.ensures.stable (λ (a b : Entry). is_lt (age_cmp a b)) entries_inserted.order answers)

pub returns-clause-len : goal.returns-clause-len
returns-clause-len c = length_permutation _ _ c.in_ok-sort_by.ensures.permutation
