-- What holds of each that a prune may take holds of each that it takes, and it takes no more than there are.
use Rattle.std.proofs.Common.{◌≡◌, ◌≤◌, ◌+◌, ◌*◌, ◌/◌, ◌&&◌, ◌==◌, ℕ, Bool, List, [], ◌∷◌, length, min, arith}
use Rattle.std.specs.Prelude.{fold}
use Rattle.std.specs.List.{AllByRecursion}
use Rattle.std.proofs.lemmas.Bool.Decides.{nat_tests}
use Rattle.std.proofs.lemmas.List.{length-take}
use Rattle.ddt_entry.specs.declared.entry.Entry.{Entry}
use Rattle.pool_model.specs.declared.commands.PruneRule.{PruneRule}
use Rattle.pool_model.specs.declared.commands.PruneRule.TheVariants.{Age, Share}
use Rattle.pool_model.specs.Pool.{Pool, Pointer, is_tracked, count_at}
use Rattle.pool_model.specs.Prune as pool_prune
use Rattle.pool_model.proofs.Lists.{all_filter, all_take, length-filter-le}
use Rattle.prune_walk.specs.Candidates.{by_age, candidates, is_old, share_of, taken_by, unique_homes}
use Rattle.prune_walk.proofs.AgeOrder.{entries_inserted}
use Rattle.prune_walk.proofs.Pruned.{pointers_inserted}
use Rattle.prune_walk.proofs.Stable.{IsInserted, all_inserted, length-fold}

module _ {X : Type 0} {lt : X → X → Bool} {insert : X → List X → List X} (is : IsInserted lt insert) where
  all_folded : (P : X → Type 0) (xs sorted : List X) → AllByRecursion P xs → AllByRecursion P sorted
      → AllByRecursion P (fold (λ ys x. insert x ys) sorted xs)
  all_folded P [] sorted all now = now
  all_folded P (x ∷ xs) sorted all now = all_folded P xs (insert x sorted) all.1 (all_inserted is P x sorted all.0 now)

-- what holds of each home that is found holds of each that is taken
pub candidates_keep : (P : Entry → Type 0) (found : List Entry) (rule : PruneRule) (moment : ℕ) → AllByRecursion P found
    → AllByRecursion P (candidates found rule moment)
candidates_keep P found rule moment all = by_rule rule
  where
    sorted : AllByRecursion P (by_age (unique_homes found))
    sorted = all_folded entries_inserted P (unique_homes found) [] (all_filter P (λ entry. entry.home.count == 1) found all) tt

    by_rule : (r : PruneRule) → AllByRecursion P (taken_by r moment (unique_homes found))
    by_rule (Age days) = all_filter P (is_old days moment) (by_age (unique_homes found)) sorted
    by_rule (Share percent) = all_take P (share_of percent (length (unique_homes found))) (by_age (unique_homes found)) sorted

-- and of each pointer that is counted alone under its key
pub pruned_keep : (P : Pointer → Type 0) (pool : Pool) (rule : PruneRule) (moment : ℕ)
    → AllByRecursion P (pool_prune.unique_pointers pool) → AllByRecursion P (pool_prune.pruned pool rule moment)
pruned_keep P pool rule moment all = by_rule rule
  where
    sorted : AllByRecursion P (pool_prune.by_age (pool_prune.unique_pointers pool))
    sorted = all_folded pointers_inserted P (pool_prune.unique_pointers pool) [] all tt

    by_rule : (r : PruneRule) → AllByRecursion P (pool_prune.taken_by r moment (pool_prune.unique_pointers pool))
    by_rule (Age days) = all_filter P (pool_prune.is_old days moment) (pool_prune.by_age (pool_prune.unique_pointers pool)) sorted
    by_rule (Share percent) =
        all_take P (percent * length (pool_prune.unique_pointers pool) / 100) (pool_prune.by_age (pool_prune.unique_pointers pool)) sorted

min_few : (n all most : ℕ) → all ≤ most → min n all ≤ most
min_few n all most few = grind (arith, nat_tests)

-- a prune takes no more homes than the pool has pointers
pub pruned_few : (pool : Pool) (rule : PruneRule) (moment : ℕ) → length (pool_prune.pruned pool rule moment) ≤ length pool.pointers
pruned_few pool rule moment = by_rule rule
  where
    sorted_few : length (pool_prune.by_age (pool_prune.unique_pointers pool)) ≤ length pool.pointers
    sorted_few =
        omega (
          arith,
          length-fold pointers_inserted (pool_prune.unique_pointers pool) [],
          length-filter-le (λ p. is_tracked p.mark && (count_at pool p.key == 1)) pool.pointers,
        )

    by_rule : (r : PruneRule) → length (pool_prune.taken_by r moment (pool_prune.unique_pointers pool)) ≤ length pool.pointers
    by_rule (Age days) =
        omega (arith, sorted_few, length-filter-le (pool_prune.is_old days moment) (pool_prune.by_age (pool_prune.unique_pointers pool)))
    by_rule (Share percent) =
        omega (
          arith,
          length-take (percent * length (pool_prune.unique_pointers pool) / 100) (pool_prune.by_age (pool_prune.unique_pointers pool)),
          min_few (percent * length (pool_prune.unique_pointers pool) / 100) (length (pool_prune.by_age (pool_prune.unique_pointers pool)))
              (length pool.pointers) sorted_few,
        )
