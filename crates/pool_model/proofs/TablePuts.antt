-- The lists of a table as sorted lists: entries and changes are put in their keys' places.
use Rattle.std.proofs.Common.{◌≡◌, true, false, refl, ap, ◌∙◌, sym}
use Rattle.std.specs.Ordering.{is_eq, is_lt}
use Rattle.ddt_entry.specs.Keys.{key_cmp, key_eq}
use Rattle.ddt_entry.specs.Changes.{key_in}
use Rattle.ddt_entry.specs.declared.key.Key.{Key}
use Rattle.ddt_entry.specs.declared.entry.Entry.{Entry}
use Rattle.ddt_entry.proofs.KeyLaws.{key_cmp_total, exact_keys, is_eq-key_cmp}
use Rattle.pool_model.specs.Table.{set_entry, set_change}
use Rattle.pool_model.proofs.Sorted.{IsPut, less_of}

pub entries_put : IsPut key_cmp (λ (entry : Entry). entry.key) set_entry
entries_put = record { total = key_cmp_total; exact = exact_keys; alone = λ x. refl; step = λ x y ys. refl }

pub changes_put : IsPut key_cmp key_in set_change
changes_put = record { total = key_cmp_total; exact = exact_keys; alone = λ x. refl; step = λ x y ys. refl }

-- keys of which one is below the other differ
pub apart_by_order : (a b : Key) → is_lt (key_cmp a b) ≡ true → key_eq a b ≡ false
apart_by_order a b below = sym (is_eq-key_cmp a b) ∙ ap is_eq (less_of (key_cmp a b) below)
