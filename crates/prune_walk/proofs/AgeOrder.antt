-- The order of a prune, and what a share is.
use Rattle.std.proofs.Common.{refl}
use Rattle.std.specs.Ordering.{is_lt}
use Rattle.std.proofs.lemmas.Cmp.{on_total, then_total, nat_cmp_total}
use Rattle.std.proofs.lemmas.List.Sorted.{ranks_by}
use Rattle.std.specs.Cmp.{IsTotalOrder}
use Rattle.ddt_entry.specs.declared.entry.Entry.{Entry}
use Rattle.ddt_entry.proofs.KeyLaws.{key_cmp_total}
use Rattle.prune_walk.specs.Candidates.{age_cmp, insert_by_age}
use Rattle.prune_walk.proofs.Stable.{IsInserted}

-- homes in order of age, and then of key
pub age_total : IsTotalOrder age_cmp
age_total = then_total (on_total (λ (e : Entry). e.home.since) nat_cmp_total) (on_total (λ (e : Entry). e.key) key_cmp_total)

pub entries_inserted : IsInserted (λ a b. is_lt (age_cmp a b)) insert_by_age
entries_inserted = record { order = ranks_by age_total (λ (e : Entry). e); alone = λ e. refl; step = λ e x xs. refl }
