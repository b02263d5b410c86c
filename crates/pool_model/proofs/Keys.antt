-- The keys that a pool counts: which they are, that they are those of a matching table's counted homes, and what one pointer more makes
-- of them.
use Rattle.std.proofs.Common.{◌≡◌, ◌+◌, ◌<◌, Bool, true, false, cond, ◌||◌, ◌&&◌, List, [], ◌∷◌, length, filter, map, Option, Some, None, refl, sym, ap, ◌∙◌, arith}
use Rattle.std.specs.Prelude.{fold, nat_lt, is_some, if◌then◌else◌}
use Rattle.std.specs.List.{AllByRecursion, find, list_any}
use Rattle.std.specs.Option.{option_map}
use Rattle.std.specs.Ordering.{is_eq, is_lt, ordering_reverse}
use Rattle.std.specs.declared.cmp.Ordering.{Ordering}
use Rattle.std.specs.declared.cmp.Ordering.TheVariants.{Less, Equal, Greater}
use Rattle.std.proofs.lemmas.Bool.{false≢true}
use Rattle.ddt_entry.specs.Keys.{key_cmp, key_eq}
use Rattle.ddt_entry.specs.declared.key.Key.{Key}
use Rattle.ddt_entry.specs.declared.entry.Home.{Home}
use Rattle.ddt_entry.specs.declared.entry.Entry.{Entry}
use Rattle.ddt_entry.proofs.KeyLaws.{key_cmp_total, exact_keys, is_eq-key_cmp, key_eq-true, key_eq-same, key_eq-symm}
use Rattle.pool_model.specs.Pool.{Pool, Pointer, Pairwise, is_tracked, tracks, tracked_at, count_at, with_key, keys_in, comes_before, insert_pointer, with_pointer}
use Rattle.pool_model.specs.Table.{TableState, entry_at, found, counted, entries_found, home_of_pointers, AreRising, counted_homes, IsTable}
use Rattle.pool_model.proofs.Lists.{all_from, pairs_filter}
use Rattle.pool_model.proofs.Sorted.{less_of, rising_put}
use Rattle.pool_model.proofs.TablePuts.{entries_put, apart_by_order}
use Rattle.pool_model.specs.Homes.{HomesMatch, is_among}
use Rattle.pool_model.proofs.Lookups.{any-put, at-above}
use Rattle.pool_model.proofs.Finding.{keys_same, found-is, rising_found}
use Rattle.pool_model.proofs.Named.{keys_put, or_rotates, or_false, KeyBelow}

-- ---- Rising keys

abbrev Rising : List Key → Type 0
Rising keys = Pairwise KeyBelow keys

below_than : (x y z : Key) → KeyBelow x y → KeyBelow y z → KeyBelow x z
below_than x y z one other = ap is_lt (key_cmp_total.trans x y z (less_of (key_cmp x y) one) (less_of (key_cmp y z) other))

-- a key is not among those above it
not_above : (key x : Key) (xs : List Key) → key_eq x key ≡ true → AllByRecursion (KeyBelow x) xs → is_among key xs ≡ false
not_above key x [] here above = refl
not_above key x (y ∷ ys) here above =
    ap (λ b. b || is_among key ys) (key_eq-symm y key ∙ ap (λ k. key_eq k y) (sym (key_eq-true x key here)) ∙ apart_by_order x y above.0)
    ∙ not_above key x ys here above.1

-- one that is below the first of rising keys is not among them
never_among : (x y : Key) (xs ys : List Key) → Rising (y ∷ ys) → KeyBelow x y → is_among x (x ∷ xs) ≡ is_among x (y ∷ ys) → ⊥
never_among x y xs ys rising below same =
    false≢true (sym (not_above x x (y ∷ ys) (key_eq-same x)
    (below, all_from (KeyBelow y) (KeyBelow x) (λ z above. below_than x y z below above) ys rising.0)) ∙ sym same ∙ ap
    (λ b. b || is_among x xs) (key_eq-same x))

first_same : (x y : Key) (xs ys : List Key) → Rising (x ∷ xs) → Rising (y ∷ ys)
    → ((key : Key) → is_among key (x ∷ xs) ≡ is_among key (y ∷ ys)) → x ≡ y
first_same x y xs ys one other same = by_order (key_cmp x y) refl
  where
    by_order : (o : Ordering) → key_cmp x y ≡ o → x ≡ y
    by_order Less said = absurd (never_among x y xs ys other (ap is_lt said) (same x))
    by_order Equal said = exact_keys x y said
    by_order Greater said =
        absurd (never_among y x ys xs one (ap is_lt (key_cmp_total.antisymm y x ∙ ap ordering_reverse said)) (sym (same y)))

rest_same : (x y key : Key) (xs ys : List Key) → x ≡ y → Rising (x ∷ xs) → Rising (y ∷ ys) → is_among key (x ∷ xs) ≡ is_among key (y ∷ ys)
    → is_among key xs ≡ is_among key ys
rest_same x y key xs ys first one other same = by_tests (key_eq x key) (key_eq y key) refl refl (ap (λ k. key_eq k key) first) same
  where
    by_tests : (b d : Bool) → key_eq x key ≡ b → key_eq y key ≡ d → b ≡ d → (b || is_among key xs) ≡ (d || is_among key ys)
        → is_among key xs ≡ is_among key ys
    by_tests true true here there equal or_same = not_above key x xs here one.0 ∙ sym (not_above key y ys there other.0)
    by_tests true false here there equal or_same = absurd (false≢true (sym equal))
    by_tests false true here there equal or_same = absurd (false≢true equal)
    by_tests false false here there equal or_same = or_same

-- rising lists that have the same keys are one
pub same_keys : (xs ys : List Key) → Rising xs → Rising ys → ((key : Key) → is_among key xs ≡ is_among key ys) → xs ≡ ys
same_keys [] [] one other same = refl
same_keys [] (y ∷ ys) one other same = absurd (false≢true (same y ∙ ap (λ b. b || is_among y ys) (key_eq-same y)))
same_keys (x ∷ xs) [] one other same = absurd (false≢true (sym (same x) ∙ ap (λ b. b || is_among x xs) (key_eq-same x)))
same_keys (x ∷ xs) (y ∷ ys) one other same =
    let first : x ≡ y = first_same x y xs ys one other same in
    ap (λ (k : Key). k ∷ xs) first ∙ ap (λ (ks : List Key). y ∷ ks)
    (same_keys xs ys one.1 other.1 (λ key. rest_same x y key xs ys first one other (same key)))

-- ---- The keys of a pool

abbrev step : List Key → Pointer → List Key
step keys p = if is_tracked p.mark then with_key p.key keys else keys

among_step : (key : Key) (keys : List Key) (p : Pointer) → is_among key (step keys p) ≡ (tracks key p || is_among key keys)
among_step key keys p = by_mark (is_tracked p.mark)
  where
    by_mark : (b : Bool) → is_among key (if b then with_key p.key keys else keys) ≡ ((b && key_eq p.key key) || is_among key keys)
    by_mark true = any-put keys_same keys_put key p.key keys
    by_mark false = refl

among_fold : (key : Key) (ps : List Pointer) (keys : List Key)
    → is_among key (fold step keys ps) ≡ (list_any (tracks key) ps || is_among key keys)
among_fold key [] keys = refl
among_fold key (p ∷ ps) keys =
    among_fold key ps (step keys p) ∙ ap (λ b. list_any (tracks key) ps || b) (among_step key keys p) ∙ or_rotates
    (list_any (tracks key) ps) (tracks key p) (is_among key keys)

-- a key is among them where a pointer is counted under it
pub among-keys_in : (key : Key) (pool : Pool) → is_among key (keys_in pool) ≡ list_any (tracks key) pool.pointers
among-keys_in key pool = among_fold key pool.pointers [] ∙ or_false (list_any (tracks key) pool.pointers)

rising_fold : (ps : List Pointer) (keys : List Key) → Rising keys → Rising (fold step keys ps)
rising_fold [] keys rising = rising
rising_fold (p ∷ ps) keys rising = rising_fold ps (step keys p) (by_mark (is_tracked p.mark))
  where
    by_mark : (b : Bool) → Rising (if b then with_key p.key keys else keys)
    by_mark true = rising_put keys_put p.key keys rising
    by_mark false = rising

pub keys_in_rising : (pool : Pool) → Rising (keys_in pool)
keys_in_rising pool = rising_fold pool.pointers [] tt

-- ---- The keys of counted homes

abbrev EntryBelow : Entry → Entry → Type 0
EntryBelow a b = is_lt (key_cmp a.key b.key) ≡ true

abbrev keys_of : List Entry → List Key
keys_of entries = map (λ (e : Entry). e.key) entries

above_all : (key : Key) (entries : List Entry) → AllByRecursion (λ (e : Entry). KeyBelow key e.key) entries
    → AllByRecursion (KeyBelow key) (keys_of entries)
above_all key [] above = tt
above_all key (e ∷ entries) above = (above.0, above_all key entries above.1)

keys_of_rising : (entries : List Entry) → AreRising entries → Rising (keys_of entries)
keys_of_rising [] rising = tt
keys_of_rising (e ∷ entries) rising = (above_all e.key entries rising.0, keys_of_rising entries rising.1)

among-keys_of : (key : Key) (entries : List Entry) → is_among key (keys_of entries) ≡ list_any (λ (e : Entry). key_eq e.key key) entries
among-keys_of key [] = refl
among-keys_of key (e ∷ entries) = ap (λ b. key_eq e.key key || b) (among-keys_of key entries)

abbrev is_counted : Entry → Bool
is_counted e = nat_lt 0 e.home.count

abbrev has_key : Key → Entry → Bool
has_key key e = key_eq e.key key

-- among the counted entries of a rising list a key is one where its home is counted
any_counted : (key : Key) (entries : List Entry) → AreRising entries
    → list_any (has_key key) (filter is_counted entries) ≡ is_some (counted (entry_at key entries))
any_counted key [] rising = refl
any_counted key (e ∷ entries) rising = by_tests (any_counted key entries rising.1) (key_eq e.key key) (is_counted e) refl refl
  where
    as_counted : (c : Bool) → is_counted e ≡ c → is_some (counted (Some e.home)) ≡ is_some (if c then Some e.home else None)
    as_counted c counts = ap (λ d. is_some (if d then Some e.home else None)) counts

    by_tests : list_any (has_key key) (filter is_counted entries) ≡ is_some (counted (entry_at key entries)) → (b c : Bool)
        → key_eq e.key key ≡ b → is_counted e ≡ c
        → list_any (has_key key) (cond c (e ∷ filter is_counted entries) (filter is_counted entries)) ≡ is_some
        (counted (option_map (λ (x : Entry). x.home) (cond b (Some e) (find (has_key key) entries))))
    by_tests rest true true here counts =
        ap (λ d. d || list_any (has_key key) (filter is_counted entries)) here ∙ sym (as_counted true counts)
    by_tests rest true false here counts =
        rest ∙ ap (λ (o : Option Entry). is_some (counted (option_map (λ (x : Entry). x.home) o)))
        (at-above keys_same entries_put key e entries here rising.0) ∙ sym (as_counted false counts)
    by_tests rest false true here counts = ap (λ d. d || list_any (has_key key) (filter is_counted entries)) here ∙ rest
    by_tests rest false false here counts = rest

among_counted : (key : Key) (table : TableState) → IsTable table
    → is_among key (keys_of (counted_homes table)) ≡ is_some (counted (found table key))
among_counted key table is =
    among-keys_of key (counted_homes table) ∙ any_counted key (entries_found table) (rising_found table is) ∙ ap
    (λ (o : Option Home). is_some (counted o)) (sym (found-is table key is))

-- pointers that pass a test have a home where one does
some_home : (test : Pointer → Bool) (ps : List Pointer) → is_some (home_of_pointers (filter test ps)) ≡ list_any test ps
some_home test [] = refl
some_home test (p ∷ ps) = by_test (some_home test ps) (test p)
  where
    by_test : is_some (home_of_pointers (filter test ps)) ≡ list_any test ps → (b : Bool)
        → is_some (home_of_pointers (cond b (p ∷ filter test ps) (filter test ps))) ≡ (b || list_any test ps)
    by_test rest true = refl
    by_test rest false = rest

-- the keys of a table's counted homes are those that its pool counts
pub keys_are_counted_homes : (pool : Pool) (table : TableState) → IsTable table → HomesMatch pool (found table)
    → keys_of (counted_homes table) ≡ keys_in pool
keys_are_counted_homes pool table is match =
    same_keys (keys_of (counted_homes table)) (keys_in pool)
    (keys_of_rising (counted_homes table) (pairs_filter EntryBelow is_counted (entries_found table) (rising_found table is)))
    (keys_in_rising pool)
    (λ key. among_counted key table is ∙ ap (λ (o : Option Home). is_some o) (match.homes key) ∙ some_home (tracks key) pool.pointers
    ∙ sym (among-keys_in key pool))

-- ---- One pointer more

pub any-insert : (test : Pointer → Bool) (p : Pointer) (ps : List Pointer)
    → list_any test (insert_pointer p ps) ≡ (test p || list_any test ps)
any-insert test p [] = refl
any-insert test p (q ∷ qs) = by_order (any-insert test p qs) (comes_before p q)
  where
    or_swaps : (a b d : Bool) → (a || (b || d)) ≡ (b || (a || d))
    or_swaps true true d = refl
    or_swaps true false d = refl
    or_swaps false true d = refl
    or_swaps false false d = refl

    by_order : list_any test (insert_pointer p qs) ≡ (test p || list_any test qs) → (b : Bool)
        → list_any test (if b then p ∷ q ∷ qs else q ∷ insert_pointer p qs) ≡ (test p || (test q || list_any test qs))
    by_order rest true = refl
    by_order rest false = ap (λ b. test q || b) rest ∙ or_swaps (test q) (test p) (list_any test qs)

among_with : (key : Key) (pool : Pool) (p : Pointer)
    → is_among key (keys_in (with_pointer pool p)) ≡ (tracks key p || is_among key (keys_in pool))
among_with key pool p = among-keys_in key (with_pointer pool p) ∙ any-insert (tracks key) p pool.pointers ∙ ap (λ b. tracks key p || b)
    (sym (among-keys_in key pool))

-- a pointer that isn't counted leaves the keys as they are
pub keys_in-untracked : (pool : Pool) (p : Pointer) → is_tracked p.mark ≡ false → keys_in (with_pointer pool p) ≡ keys_in pool
keys_in-untracked pool p untracked =
    same_keys (keys_in (with_pointer pool p)) (keys_in pool) (keys_in_rising (with_pointer pool p)) (keys_in_rising pool)
    (λ key. among_with key pool p ∙ ap (λ b. (b && key_eq p.key key) || is_among key (keys_in pool)) untracked)

-- one that is counted puts its key in
pub keys_in-tracked : (pool : Pool) (p : Pointer) → is_tracked p.mark ≡ true
    → keys_in (with_pointer pool p) ≡ with_key p.key (keys_in pool)
keys_in-tracked pool p tracked =
    same_keys (keys_in (with_pointer pool p)) (with_key p.key (keys_in pool)) (keys_in_rising (with_pointer pool p))
    (rising_put keys_put p.key (keys_in pool) (keys_in_rising pool))
    (λ key. among_with key pool p ∙ ap (λ b. (b && key_eq p.key key) || is_among key (keys_in pool)) tracked ∙ sym
    (any-put keys_same keys_put key p.key (keys_in pool)))

-- ---- A key that is there, or not

with_key-there : (key : Key) (keys : List Key) → Rising keys → is_among key keys ≡ true → with_key key keys ≡ keys
with_key-there key keys rising there =
    same_keys (with_key key keys) keys (rising_put keys_put key keys rising) rising
    (λ other. any-put keys_same keys_put other key keys ∙ by_test other (key_eq key other) refl)
  where
    by_test : (other : Key) (b : Bool) → key_eq key other ≡ b → (b || is_among other keys) ≡ is_among other keys
    by_test other true here = sym (ap (λ (k : Key). is_among k keys) (sym (key_eq-true key other here)) ∙ there)
    by_test other false here = refl

length-with_key : (key : Key) (keys : List Key) → is_among key keys ≡ false → length (with_key key keys) ≡ length keys + 1
length-with_key key [] missing = omega arith
length-with_key key (k ∷ ks) missing = by_test (λ rest. length-with_key key ks rest) (key_eq k key) refl missing
  where
    by_order : length (with_key key ks) ≡ length ks + 1 → (o : Ordering) → is_eq o ≡ false
        → length (if is_lt o then key ∷ k ∷ ks else (if is_eq o then k ∷ ks else k ∷ with_key key ks)) ≡ length (k ∷ ks) + 1
    by_order longer Less apart = omega arith
    by_order longer Equal apart = absurd (false≢true (sym apart))
    by_order longer Greater apart = omega (arith, longer)

    by_test : (is_among key ks ≡ false → length (with_key key ks) ≡ length ks + 1) → (b : Bool) → key_eq k key ≡ b
        → (b || is_among key ks) ≡ false → length (with_key key (k ∷ ks)) ≡ length (k ∷ ks) + 1
    by_test rest true here none = absurd (false≢true (sym none))
    by_test rest false here none = by_order (rest none) (key_cmp key k) (is_eq-key_cmp key k ∙ key_eq-symm key k ∙ here)

any-none : (test : Pointer → Bool) (ps : List Pointer) → filter test ps ≡ [] → list_any test ps ≡ false
any-none test ps none = sym (some_home test ps) ∙ ap (λ (qs : List Pointer). is_some (home_of_pointers qs)) none

any-some : (test : Pointer → Bool) (ps : List Pointer) → 0 < length (filter test ps) → list_any test ps ≡ true
any-some test ps some = sym (some_home test ps) ∙ has_home (filter test ps) some
  where
    has_home : (qs : List Pointer) → 0 < length qs → is_some (home_of_pointers qs) ≡ true
    has_home [] none = absurd (omega (arith, none))
    has_home (q ∷ qs) here = refl

-- a counted pointer of a key that is not counted adds one key
pub length-keys_in_new : (pool : Pool) (p : Pointer) → is_tracked p.mark ≡ true → tracked_at pool p.key ≡ []
    → length (keys_in (with_pointer pool p)) ≡ length (keys_in pool) + 1
length-keys_in_new pool p tracked none =
    ap (λ (keys : List Key). length keys) (keys_in-tracked pool p tracked)
    ∙ length-with_key p.key (keys_in pool) (among-keys_in p.key pool ∙ any-none (tracks p.key) pool.pointers none)

-- and of one that is counted it adds none
pub keys_in-counted : (pool : Pool) (p : Pointer) → is_tracked p.mark ≡ true → 0 < count_at pool p.key
    → keys_in (with_pointer pool p) ≡ keys_in pool
keys_in-counted pool p tracked counts =
    keys_in-tracked pool p tracked
    ∙ with_key-there p.key (keys_in pool) (keys_in_rising pool) (among-keys_in p.key pool ∙ any-some (tracks p.key) pool.pointers counts)
