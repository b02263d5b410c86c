-- A map that has each change under its own key, as the sorted list of its changes.
use Rattle.std.proofs.Common.{◌≡◌, Bool, true, false, cond, not, List, [], ◌∷◌, Option, Some, refl, sym, ap, subst, ◌∙◌}
use Rattle.std.specs.Prelude.{if◌then◌else◌}
use Rattle.std.specs.List.{AllByRecursion}
use Rattle.std.specs.List.Sorted.{IsStrictlySortedBy}
use Rattle.std.specs.Map.{keys_of, values_of, lookup, remove_entry}
use Rattle.std.specs.BTreeMap.{insert_entry, is_at}
use Rattle.std.specs.Ordering.{is_eq, is_lt, match_ordering}
use Rattle.std.specs.declared.cmp.Ordering.{Ordering}
use Rattle.std.specs.declared.cmp.Ordering.TheVariants.{Less, Equal, Greater}
use Rattle.std.proofs.lemmas.Map.Keys.{sorted_head, sorted_tail}
use Rattle.ddt_entry.specs.Keys.{key_cmp, key_eq}
use Rattle.ddt_entry.specs.Changes.{key_in}
use Rattle.ddt_entry.specs.declared.key.Key.{Key}
use Rattle.ddt_entry.specs.declared.entry.Change.{Change}
use Rattle.ddt_entry.proofs.KeyLaws.{exact_keys, is_eq-key_cmp, key_eq-symm, key_eq-true}
use Rattle.pool_model.specs.Table.{change_at, set_change, drop_change, AreChangesRising}
use Rattle.pool_model.proofs.Lists.{filter_whole}
use Rattle.plain_table.specs.Keyed.{AreKeyed}

abbrev Entry : Type 0
Entry = Key × Change

-- ---- A change is set

pub set_values : (change : Change) (entries : List Entry) → AreKeyed entries
    → values_of (insert_entry key_cmp entries (key_in change) change) ≡ set_change change (values_of entries)
set_values change [] keyed = refl
set_values change (entry ∷ entries) keyed =
    by_order (set_values change entries keyed.1) (key_cmp (key_in change) entry.0)
    ∙ ap (λ k. put (key_cmp (key_in change) k)) keyed.0
  where
    put : Ordering → List Change
    put o = if is_lt o then change ∷ entry.1 ∷ values_of entries
        else (if is_eq o then change ∷ values_of entries else entry.1 ∷ set_change change (values_of entries))

    by_order : values_of (insert_entry key_cmp entries (key_in change) change) ≡ set_change change (values_of entries) → (o : Ordering)
        → values_of (match_ordering o ((key_in change, change) ∷ entry ∷ entries) ((entry.0, change) ∷ entries)
        (entry ∷ insert_entry key_cmp entries (key_in change) change)) ≡ put o
    by_order rest Less = refl
    by_order rest Equal = refl
    by_order rest Greater = ap (λ (log : List Change). entry.1 ∷ log) rest

pub keyed_set : (change : Change) (entries : List Entry) → AreKeyed entries
    → AreKeyed (insert_entry key_cmp entries (key_in change) change)
keyed_set change [] keyed = (refl, tt)
keyed_set change (entry ∷ entries) keyed =
    by_order (keyed_set change entries keyed.1) (key_cmp (key_in change) entry.0) refl
  where
    by_order : AreKeyed (insert_entry key_cmp entries (key_in change) change) → (o : Ordering) → key_cmp (key_in change) entry.0 ≡ o
        → AreKeyed (match_ordering o ((key_in change, change) ∷ entry ∷ entries) ((entry.0, change) ∷ entries)
        (entry ∷ insert_entry key_cmp entries (key_in change) change))
    by_order rest Less said = (refl, keyed)
    by_order rest Equal said = (sym (exact_keys (key_in change) entry.0 said), keyed.1)
    by_order rest Greater said = (keyed.0, rest)

-- ---- A key is looked up

is_own : (key : Key) (entry : Entry) → entry.0 ≡ key_in entry.1 → is_eq (key_cmp key entry.0) ≡ key_eq (key_in entry.1) key
is_own key entry own = is_eq-key_cmp key entry.0 ∙ key_eq-symm key entry.0 ∙ ap (λ k. key_eq k key) own

pub lookup_values : (key : Key) (entries : List Entry) → AreKeyed entries
    → lookup (is_at (key_cmp key)) entries ≡ change_at key (values_of entries)
lookup_values key [] keyed = refl
lookup_values key (entry ∷ entries) keyed =
    ap (λ b. cond b (Some entry.1) (lookup (is_at (key_cmp key)) entries)) (is_own key entry keyed.0)
    ∙ ap (cond (key_eq (key_in entry.1) key) (Some entry.1)) (lookup_values key entries keyed.1)

-- ---- The keys rise

below_values : (key : Key) (entries : List Entry) → AreKeyed entries → AllByRecursion (λ y. key_cmp key y ≡ Less) (keys_of entries)
    → AllByRecursion (λ c. is_lt (key_cmp key (key_in c)) ≡ true) (values_of entries)
below_values key [] keyed below = tt
below_values key (entry ∷ entries) keyed below =
    (ap (λ k. is_lt (key_cmp key k)) (sym keyed.0) ∙ ap is_lt below.0, below_values key entries keyed.1 below.1)

pub rising_values : (entries : List Entry) → AreKeyed entries → IsStrictlySortedBy key_cmp (keys_of entries)
    → AreChangesRising (values_of entries)
rising_values [] keyed sorted = tt
rising_values (entry ∷ entries) keyed sorted = (
  subst (λ (k : Key). AllByRecursion (λ c. is_lt (key_cmp k (key_in c)) ≡ true) (values_of entries)) keyed.0
      (below_values entry.0 entries keyed.1 (sorted_head key_cmp entry.0 (keys_of entries) sorted)),
  rising_values entries keyed.1 (sorted_tail key_cmp entry.0 (keys_of entries) sorted),
)

-- ---- A key is taken out

others_stay : (key : Key) (entries : List Entry) → AreKeyed entries → AllByRecursion (λ y. key_cmp key y ≡ Less) (keys_of entries)
    → AllByRecursion (λ c. not (key_eq (key_in c) key) ≡ true) (values_of entries)
others_stay key [] keyed above = tt
others_stay key (entry ∷ entries) keyed above =
    (ap not (sym (is_own key entry keyed.0) ∙ ap is_eq above.0), others_stay key entries keyed.1 above.1)

pub removed_values : (key : Key) (entries : List Entry) → AreKeyed entries → IsStrictlySortedBy key_cmp (keys_of entries)
    → values_of (remove_entry (is_at (key_cmp key)) entries) ≡ drop_change key (values_of entries)
removed_values key [] keyed sorted = refl
removed_values key (entry ∷ entries) keyed sorted =
    by_test (removed_values key entries keyed.1 (sorted_tail key_cmp entry.0 (keys_of entries) sorted))
    (is_eq (key_cmp key entry.0)) refl
    ∙ ap (λ b. cond (not b) (entry.1 ∷ drop_change key (values_of entries)) (drop_change key (values_of entries)))
    (is_own key entry keyed.0)
  where
    by_test : values_of (remove_entry (is_at (key_cmp key)) entries) ≡ drop_change key (values_of entries) → (b : Bool)
        → is_eq (key_cmp key entry.0) ≡ b
        → values_of (cond b entries (entry ∷ remove_entry (is_at (key_cmp key)) entries)) ≡ cond (not b)
        (entry.1 ∷ drop_change key (values_of entries)) (drop_change key (values_of entries))
    by_test rest true here =
        sym (filter_whole (λ c. not (key_eq (key_in c) key)) (values_of entries)
        (others_stay key entries keyed.1
        (subst (λ (k : Key). AllByRecursion (λ y. key_cmp k y ≡ Less) (keys_of entries))
        (sym (key_eq-true key entry.0 (sym (is_eq-key_cmp key entry.0) ∙ here)))
        (sorted_head key_cmp entry.0 (keys_of entries) sorted))))
    by_test rest false here = ap (λ (log : List Change). entry.1 ∷ log) rest

pub keyed_removed : (key : Key) (entries : List Entry) → AreKeyed entries → AreKeyed (remove_entry (is_at (key_cmp key)) entries)
keyed_removed key [] keyed = tt
keyed_removed key (entry ∷ entries) keyed = by_test (keyed_removed key entries keyed.1) (is_eq (key_cmp key entry.0))
  where
    by_test : AreKeyed (remove_entry (is_at (key_cmp key)) entries) → (b : Bool)
        → AreKeyed (cond b entries (entry ∷ remove_entry (is_at (key_cmp key)) entries))
    by_test rest true = keyed.1
    by_test rest false = (keyed.0, rest)

-- ---- What a map's calls say, of the list that it is seen as

pub record IsSeen (entries : List Entry) (log : List Change) : Type 0 where
  pub keyed : AreKeyed entries
  pub seen : values_of entries ≡ log

module _ {entries : List Entry} {log : List Change} (is : IsSeen entries log) where
  pub is_set : (change : Change) {key : Key} {new : List Entry} → key ≡ key_in change → new ≡ insert_entry key_cmp entries key change
      → values_of new ≡ set_change change log
  is_set change own put =
      ap values_of put ∙ ap (λ k. values_of (insert_entry key_cmp entries k change)) own ∙ set_values change entries is.keyed
      ∙ ap (set_change change) is.seen

  pub is_keyed : (change : Change) {key : Key} {new : List Entry} → key ≡ key_in change → new ≡ insert_entry key_cmp entries key change
      → AreKeyed new
  is_keyed change own put =
      subst AreKeyed (sym (put ∙ ap (λ k. insert_entry key_cmp entries k change) own)) (keyed_set change entries is.keyed)

  pub is_found : {key own : Key} {o : Option Change} → key ≡ own → o ≡ lookup (is_at (key_cmp key)) entries → o ≡ change_at own log
  is_found {own = own} same found =
      found ∙ ap (λ k. lookup (is_at (key_cmp k)) entries) same ∙ lookup_values own entries is.keyed ∙ ap (change_at own) is.seen

  pub is_rising : IsStrictlySortedBy key_cmp (keys_of entries) → AreChangesRising log
  is_rising sorted = subst AreChangesRising is.seen (rising_values entries is.keyed sorted)

  pub is_removed : (key : Key) {new : List Entry} → IsStrictlySortedBy key_cmp (keys_of entries)
      → new ≡ remove_entry (is_at (key_cmp key)) entries → values_of new ≡ drop_change key log
  is_removed key sorted left = ap values_of left ∙ removed_values key entries is.keyed sorted ∙ ap (drop_change key) is.seen
