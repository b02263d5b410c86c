-- What a map's calls make of the list of its entries.
use Rattle.std.proofs.Common.{◌≡◌, Bool, true, false, cond, not, List, [], ◌∷◌, find, Some, refl, sym, ap, subst, ◌∙◌}
use Rattle.std.specs.Prelude.{if◌then◌else◌}
use Rattle.std.specs.List.{AllByRecursion}
use Rattle.std.specs.Map.{lookup, remove_entry}
use Rattle.std.specs.BTreeMap.{insert_entry, is_at}
use Rattle.std.specs.Option.{option_map}
use Rattle.std.specs.Ordering.{is_eq, is_lt, match_ordering}
use Rattle.std.specs.declared.cmp.Ordering.{Ordering}
use Rattle.std.specs.declared.cmp.Ordering.TheVariants.{Less, Equal, Greater}
use Rattle.ddt_entry.specs.Keys.{key_cmp, key_eq}
use Rattle.ddt_entry.specs.declared.key.Key.{Key}
use Rattle.ddt_entry.specs.declared.entry.Home.{Home}
use Rattle.ddt_entry.specs.declared.entry.Entry.{Entry}
use Rattle.ddt_entry.proofs.KeyLaws.{exact_keys, is_eq-key_cmp, key_eq-symm, key_eq-true}
use Rattle.pool_model.specs.Table.{AreRising, entry_at, set_entry, drop_entry}
use Rattle.pool_model.proofs.Lists.{all_from, filter_whole, pairs_filter}
use Rattle.pool_model.proofs.Sorted.{rising_put, less_of}
use Rattle.pool_model.proofs.TablePuts.{entries_put, apart_by_order}
use Rattle.plain_table.specs.HomeLists.{entry_of, entries_of}

abbrev pub Below : Entry → Entry → Type 0
Below a b = is_lt (key_cmp a.key b.key) ≡ true

-- an entry that is below all others is set in front of them
pub set_first : (entry : Entry) (es : List Entry) → AllByRecursion (Below entry) es → set_entry entry es ≡ entry ∷ es
set_first entry [] above = refl
set_first entry (e ∷ es) above =
    ap (λ (o : Ordering). if is_lt o then entry ∷ e ∷ es else (if is_eq o then entry ∷ es else e ∷ set_entry entry es))
    (less_of (key_cmp entry.key e.key) above.0)

-- a key that is below all others is not there to be dropped
pub drop_above : (key : Key) (es : List Entry) → AllByRecursion (λ (e : Entry). is_lt (key_cmp key e.key) ≡ true) es
    → drop_entry key es ≡ es
drop_above key es above =
    filter_whole (λ (e : Entry). not (key_eq e.key key)) es
    (all_from (λ (e : Entry). is_lt (key_cmp key e.key) ≡ true) (λ (e : Entry). not (key_eq e.key key) ≡ true)
    (λ e less. ap not (key_eq-symm e.key key ∙ apart_by_order key e.key less)) es above)

tells : (key other : Key) → is_at (key_cmp key) other ≡ key_eq other key
tells key other = is_eq-key_cmp key other ∙ key_eq-symm key other

-- what is looked up is the entry's home
pub lookup-entries_of : (key : Key) (pairs : List (Key × Home)) → lookup (is_at (key_cmp key)) pairs ≡ entry_at key (entries_of pairs)
lookup-entries_of key [] = refl
lookup-entries_of key (pair ∷ pairs) =
    ap (λ b. cond b (Some pair.1) (lookup (is_at (key_cmp key)) pairs)) (tells key pair.0)
    ∙ by_test (lookup-entries_of key pairs) (key_eq pair.0 key)
  where
    by_test : lookup (is_at (key_cmp key)) pairs ≡ entry_at key (entries_of pairs) → (b : Bool)
        → cond b (Some pair.1) (lookup (is_at (key_cmp key)) pairs) ≡ option_map (λ (e : Entry). e.home)
        (cond b (Some (entry_of pair)) (find (λ (e : Entry). key_eq e.key key) (entries_of pairs)))
    by_test rest true = refl
    by_test rest false = rest

-- a pair that is inserted is an entry that is set
pub entries_of-insert : (key : Key) (home : Home) (pairs : List (Key × Home))
    → entries_of (insert_entry key_cmp pairs key home) ≡ set_entry (record { key = key; home = home }) (entries_of pairs)
entries_of-insert key home [] = refl
entries_of-insert key home (pair ∷ pairs) = by_order (entries_of-insert key home pairs) (key_cmp key pair.0) refl
  where
    entry : Entry
    entry = record { key = key; home = home }

    by_order : entries_of (insert_entry key_cmp pairs key home) ≡ set_entry entry (entries_of pairs) → (o : Ordering)
        → key_cmp key pair.0 ≡ o
        → entries_of (match_ordering o ((key, home) ∷ pair ∷ pairs) ((pair.0, home) ∷ pairs) (pair ∷ insert_entry key_cmp pairs key home))
        ≡ (if is_lt o then entry ∷ entry_of pair ∷ entries_of pairs else
        (if is_eq o then entry ∷ entries_of pairs else entry_of pair ∷ set_entry entry (entries_of pairs)))
    by_order rest Less said = refl
    by_order rest Equal said =
        ap (λ (k : Key). record { key = k; home = home } ∷ entries_of pairs) (sym (exact_keys key pair.0 said))
    by_order rest Greater said = ap (λ (es : List Entry). entry_of pair ∷ es) rest

-- a pair that is removed is an entry that is dropped
pub entries_of-remove : (key : Key) (pairs : List (Key × Home)) → AreRising (entries_of pairs)
    → entries_of (remove_entry (is_at (key_cmp key)) pairs) ≡ drop_entry key (entries_of pairs)
entries_of-remove key [] rising = refl
entries_of-remove key (pair ∷ pairs) rising =
    ap (λ b. entries_of (cond b pairs (pair ∷ remove_entry (is_at (key_cmp key)) pairs))) (tells key pair.0)
    ∙ by_test (entries_of-remove key pairs rising.1) (key_eq pair.0 key) refl
  where
    by_test : entries_of (remove_entry (is_at (key_cmp key)) pairs) ≡ drop_entry key (entries_of pairs) → (b : Bool)
        → key_eq pair.0 key ≡ b
        → entries_of (cond b pairs (pair ∷ remove_entry (is_at (key_cmp key)) pairs)) ≡ cond (not b)
        (entry_of pair ∷ drop_entry key (entries_of pairs)) (drop_entry key (entries_of pairs))
    by_test rest true here =
        sym (drop_above key (entries_of pairs)
        (subst (λ (k : Key). AllByRecursion (λ (e : Entry). is_lt (key_cmp k e.key) ≡ true) (entries_of pairs))
        (key_eq-true pair.0 key here) rising.0))
    by_test rest false here = ap (λ (es : List Entry). entry_of pair ∷ es) rest

-- ---- They rise

pub rising-insert : (key : Key) (home : Home) (pairs : List (Key × Home)) → AreRising (entries_of pairs)
    → AreRising (entries_of (insert_entry key_cmp pairs key home))
rising-insert key home pairs rising =
    subst AreRising (sym (entries_of-insert key home pairs))
    (rising_put entries_put (record { key = key; home = home }) (entries_of pairs) rising)

pub rising-remove : (key : Key) (pairs : List (Key × Home)) → AreRising (entries_of pairs)
    → AreRising (entries_of (remove_entry (is_at (key_cmp key)) pairs))
rising-remove key pairs rising =
    subst AreRising (sym (entries_of-remove key pairs rising))
    (pairs_filter Below (λ (e : Entry). not (key_eq e.key key)) (entries_of pairs) rising)
