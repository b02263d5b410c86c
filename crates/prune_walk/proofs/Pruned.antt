-- Where a table matches a pool, the homes that a prune takes of it are those of the pointers that it takes of the pool, in their order.
use Rattle.std.proofs.Common.{◌≡◌, ℕ, ◌+◌, ◌*◌, ◌/◌, Bool, true, false, cond, not, ◌&&◌, ◌==◌, nat_lt, List, [], ◌∷◌, length, filter, map, take, Option, Some, None, refl, sym, ap, ◌∙◌, arith}
use Rattle.std.specs.Prelude.{nat_le, if◌then◌else◌}
use Rattle.std.specs.Cmp.{IsTotalOrder, IsStrictWeakOrder}
use Rattle.std.specs.List.{AllByRecursion, find}
use Rattle.std.specs.List.Sorted.{ties}
use Rattle.std.specs.Option.{option_map}
use Rattle.std.specs.Ordering.{is_lt, is_eq, nat_cmp, ordering_then, ordering_reverse}
use Rattle.std.specs.declared.cmp.Ordering.{Ordering}
use Rattle.std.specs.declared.cmp.Ordering.TheVariants.{Less, Equal, Greater}
use Rattle.std.proofs.lemmas.Bool.{false≢true}
use Rattle.std.proofs.lemmas.Bool.Decides.{nat_tests}
use Rattle.std.proofs.lemmas.Cmp.{on_total, then_total, nat_cmp_total}
use Rattle.std.proofs.lemmas.List.{take-map, length-map}
use Rattle.std.proofs.lemmas.List.Sorted.{ranks_by}
use Rattle.ddt_entry.specs.Keys.{key_cmp, key_eq}
use Rattle.ddt_entry.specs.declared.key.Key.{Key}
use Rattle.ddt_entry.specs.declared.entry.Home.{Home}
use Rattle.ddt_entry.specs.declared.entry.Entry.{Entry}
use Rattle.ddt_entry.specs.declared.entry.Change.{Change}
use Rattle.ddt_entry.specs.declared.entry.Change.TheVariants.{Gone}
use Rattle.ddt_entry.proofs.KeyLaws.{key_cmp_total, is_eq-key_cmp, key_eq-true, key_eq-symm}
use Rattle.pool_model.specs.declared.commands.PruneRule.{PruneRule}
use Rattle.pool_model.specs.declared.commands.PruneRule.TheVariants.{Age, Share}
use Rattle.pool_model.specs.Pool.{Pool, Pointer, Pairwise, is_tracked, since_of, tracks, tracked_at, count_at}
use Rattle.pool_model.specs.Prune as pool_prune
use Rattle.pool_model.specs.Table.{TableState, entry_at, found, counted, entries_found, home_of_pointers, AreRising, Matches}
use Rattle.pool_model.proofs.Finding.{keys_same, found-is, rising_found}
use Rattle.pool_model.proofs.Lists.{all_each, all_tested}
use Rattle.pool_model.proofs.Lookups.{at-above}
use Rattle.pool_model.proofs.Loops.{filter-none}
use Rattle.pool_model.proofs.TablePuts.{entries_put}
use Rattle.prune_walk.specs.Candidates.{by_age, share_of, taken_by, unique_homes, candidates}
use Rattle.prune_walk.proofs.AgeOrder.{entries_inserted}
use Rattle.prune_walk.proofs.Stable.{IsInserted, filter-kept, filter-left, same_from_ties, one_rank, sorted_fold, ranks_kept, length-fold}

-- ---- Ages

-- what the order of a prune goes by
pub record Aged : Type 0 where
  pub since : ℕ
  pub key : Key

abbrev pub of_entry : Entry → Aged
of_entry e = record { since = e.home.since; key = e.key }

abbrev pub of_pointer : Pointer → Aged
of_pointer p = record { since = since_of p.mark; key = p.key }

abbrev aged_cmp : Aged → Aged → Ordering
aged_cmp a b = ordering_then (nat_cmp a.since b.since) (key_cmp a.key b.key)

abbrev is_below : Aged → Aged → Bool
is_below a b = is_lt (aged_cmp a b)

aged_total : IsTotalOrder aged_cmp
aged_total = then_total (on_total (λ (a : Aged). a.since) nat_cmp_total) (on_total (λ (a : Aged). a.key) key_cmp_total)

aged_order : IsStrictWeakOrder is_below
aged_order = ranks_by aged_total (λ (a : Aged). a)

pub pointers_inserted : IsInserted (λ p q. is_lt (pool_prune.age_cmp p q)) pool_prune.insert_by_age
pointers_inserted = record { order = ranks_by aged_total of_pointer; alone = λ p. refl; step = λ p q qs. refl }

not_either : (o : Ordering) → not (is_lt o) && not (is_lt (ordering_reverse o)) ≡ is_eq o
not_either Less = refl
not_either Equal = refl
not_either Greater = refl

is_eq-then : (r s : Ordering) → is_eq (ordering_then r s) ≡ is_eq s && is_eq r
is_eq-then Less Less = refl
is_eq-then Less Equal = refl
is_eq-then Less Greater = refl
is_eq-then Equal Less = refl
is_eq-then Equal Equal = refl
is_eq-then Equal Greater = refl
is_eq-then Greater Less = refl
is_eq-then Greater Equal = refl
is_eq-then Greater Greater = refl

is_eq-nat_cmp : (x y : ℕ) → is_eq (nat_cmp x y) ≡ (y == x)
is_eq-nat_cmp x y = grind (arith, nat_tests)

-- whether one has the key and the moment of another
abbrev is_at : Aged → Aged → Bool
is_at z a = key_eq a.key z.key && (a.since == z.since)

-- those that tie are one
ties_are : (z a : Aged) → ties is_below z a ≡ is_at z a
ties_are z a =
    ap (λ o. not (is_lt (aged_cmp z a)) && not (is_lt o)) (aged_total.antisymm a z)
    ∙ not_either (aged_cmp z a)
    ∙ is_eq-then (nat_cmp z.since a.since) (key_cmp z.key a.key)
    ∙ ap (λ b. b && is_eq (nat_cmp z.since a.since)) (is_eq-key_cmp z.key a.key ∙ key_eq-symm z.key a.key)
    ∙ ap (λ b. key_eq a.key z.key && b) (is_eq-nat_cmp z.since a.since)

eqb-true : (x y : ℕ) → (x == y) ≡ true → x ≡ y
eqb-true x y said = grind (arith, nat_tests, said)

same_age : (z a : Aged) → key_eq a.key z.key ≡ true → (a.since == z.since) ≡ true → a ≡ z
same_age z a one other =
    let keys : a.key ≡ z.key = key_eq-true a.key z.key one in
    let moments : a.since ≡ z.since = eqb-true a.since z.since other in
    λ i. record { since = moments i; key = keys i }

-- ---- Lists under a map

module _ {X Y : Type 0} where
  filter_mapped : (f : X → Y) (test : Y → Bool) (xs : List X) → filter test (map f xs) ≡ map f (filter (λ x. test (f x)) xs)
  filter_mapped f test [] = refl
  filter_mapped f test (x ∷ xs) =
      ap (λ (ys : List Y). cond (test (f x)) (f x ∷ ys) ys) (filter_mapped f test xs) ∙ by_test (test (f x))
    where
      by_test : (b : Bool) → cond b (f x ∷ map f (filter (λ y. test (f y)) xs)) (map f (filter (λ y. test (f y)) xs))
          ≡ map f (cond b (x ∷ filter (λ y. test (f y)) xs) (filter (λ y. test (f y)) xs))
      by_test true = refl
      by_test false = refl

  all_of_mapped : (f : X → Y) (P : Y → Type 0) (xs : List X) → AllByRecursion (λ x. P (f x)) xs → AllByRecursion P (map f xs)
  all_of_mapped f P [] all = tt
  all_of_mapped f P (x ∷ xs) all = (all.0, all_of_mapped f P xs all.1)

  pairs_mapped : (f : X → Y) (R : Y → Y → Type 0) (xs : List X) → Pairwise (λ x y. R (f x) (f y)) xs → Pairwise R (map f xs)
  pairs_mapped f R [] pairs = tt
  pairs_mapped f R (x ∷ xs) pairs = (all_of_mapped f (R (f x)) xs pairs.0, pairs_mapped f R xs pairs.1)

module _ {X : Type 0} where
  -- two filters that pass the same together
  filter_both : (one more : X → Bool) (other second : X → Bool) → ((x : X) → one x && more x ≡ other x && second x) → (xs : List X)
      → filter one (filter more xs) ≡ filter other (filter second xs)
  filter_both one more other second same [] = refl
  filter_both one more other second same (x ∷ xs) =
      joined one more xs (more x) ∙ ap (λ b. cond b (x ∷ filter one (filter more xs)) (filter one (filter more xs))) (same x) ∙ ap
      (λ (ys : List X). cond (other x && second x) (x ∷ ys) ys) (filter_both one more other second same xs) ∙ sym
      (joined other second xs (second x))
    where
      joined : (p q : X → Bool) (ys : List X) (b : Bool) → filter p (cond b (x ∷ filter q ys) (filter q ys))
          ≡ cond (p x && b) (x ∷ filter p (filter q ys)) (filter p (filter q ys))
      joined p q ys true = by_test (p x)
        where
          by_test : (b : Bool) → cond b (x ∷ filter p (filter q ys)) (filter p (filter q ys))
              ≡ cond (b && true) (x ∷ filter p (filter q ys)) (filter p (filter q ys))
          by_test true = refl
          by_test false = refl
      joined p q ys false = by_test (p x)
        where
          by_test : (b : Bool) → filter p (filter q ys) ≡ cond (b && false) (x ∷ filter p (filter q ys)) (filter p (filter q ys))
          by_test true = refl
          by_test false = refl

  -- a filter that also asks for what holds of all or of none
  filter_where : (test : X → Bool) (b : Bool) (xs : List X) → filter (λ x. test x && b) xs ≡ cond b (filter test xs) []
  filter_where test true xs = ap (λ (t : X → Bool). filter t xs) (λ i x. and_true (test x) i)
    where
      and_true : (b : Bool) → b && true ≡ b
      and_true true = refl
      and_true false = refl
  filter_where test false xs = filter-none (λ x. test x && false) xs (all_each (λ x. test x && false ≡ false) (λ x. and_false (test x)) xs)
    where
      and_false : (b : Bool) → b && false ≡ false
      and_false true = refl
      and_false false = refl

-- ---- One key at one moment

-- the unique home of a key, where it has been counted since that moment
abbrev aged_at : Aged → Option Home → List Aged
aged_at z None = []
aged_at z (Some home) = if (home.count == 1) && (home.since == z.since) then z ∷ [] else []

aged_at-counted : (z : Aged) (o : Option Home) → aged_at z (counted o) ≡ aged_at z o
aged_at-counted z None = refl
aged_at-counted z (Some home) = by_test (nat_lt 0 home.count) refl
  where
    by_test : (b : Bool) → nat_lt 0 home.count ≡ b → aged_at z (if b then Some home else None) ≡ aged_at z (Some home)
    by_test true counts = refl
    by_test false none =
        let not_one : (home.count == 1) ≡ false = grind (arith, nat_tests, none) in
        sym (ap (λ b. if b && (home.since == z.since) then z ∷ [] else []) not_one)

-- ---- The entries

abbrev entries_at : Aged → List Entry → List Aged
entries_at z entries = map of_entry (filter (λ e. is_at z (of_entry e)) (unique_homes entries))

entries_at-first : (z : Aged) (e : Entry) (es : List Entry) → key_eq e.key z.key ≡ true → entries_at z es ≡ []
    → entries_at z (e ∷ es) ≡ aged_at z (Some e.home)
entries_at-first z e es here none = by_tests (e.home.count == 1) (e.home.since == z.since) refl
  where
    by_tests : (u s : Bool) → (e.home.since == z.since) ≡ s
        → map of_entry (filter (λ x. is_at z (of_entry x)) (cond u (e ∷ unique_homes es) (unique_homes es)))
        ≡ (if u && s then z ∷ [] else [])
    by_tests false s said = none
    by_tests true true said =
        ap (map of_entry) (filter-kept (λ x. is_at z (of_entry x)) e (unique_homes es)
        (ap (λ b. b && (e.home.since == z.since)) here ∙ said))
        ∙ ap (λ (ages : List Aged). of_entry e ∷ ages) none ∙ ap (λ (a : Aged). a ∷ []) (same_age z (of_entry e) here said)
    by_tests true false said =
        ap (map of_entry) (filter-left (λ x. is_at z (of_entry x)) e (unique_homes es)
        (ap (λ b. b && (e.home.since == z.since)) here ∙ said))
        ∙ none

entries_at-other : (z : Aged) (e : Entry) (es : List Entry) → key_eq e.key z.key ≡ false → entries_at z (e ∷ es) ≡ entries_at z es
entries_at-other z e es apart = by_test (e.home.count == 1)
  where
    by_test : (u : Bool) → map of_entry (filter (λ x. is_at z (of_entry x)) (cond u (e ∷ unique_homes es) (unique_homes es)))
        ≡ entries_at z es
    by_test true =
        ap (map of_entry)
        (filter-left (λ x. is_at z (of_entry x)) e (unique_homes es) (ap (λ b. b && (e.home.since == z.since)) apart))
    by_test false = refl

entries_at-is : (z : Aged) (entries : List Entry) → AreRising entries → entries_at z entries ≡ aged_at z (entry_at z.key entries)
entries_at-is z [] rising = refl
entries_at-is z (e ∷ es) rising = by_test (entries_at-is z es rising.1) (key_eq e.key z.key) refl
  where
    by_test : entries_at z es ≡ aged_at z (entry_at z.key es) → (b : Bool) → key_eq e.key z.key ≡ b
        → entries_at z (e ∷ es) ≡ aged_at z (option_map (λ (x : Entry). x.home)
        (cond b (Some e) (find (λ (x : Entry). key_eq x.key z.key) es)))
    by_test rest true here =
        entries_at-first z e es here
        (rest ∙ ap (λ (o : Option Entry). aged_at z (option_map (λ (x : Entry). x.home) o))
        (at-above keys_same entries_put z.key e es here rising.0))
    by_test rest false apart = entries_at-other z e es apart ∙ rest

-- ---- The pointers

abbrev is_since : Aged → Pointer → Bool
is_since z p = since_of p.mark == z.since

-- of the pointers that are counted under a key, the only one
pointers_at-key : (z : Aged) (ps : List Pointer) → AllByRecursion (λ p. key_eq p.key z.key ≡ true) ps
    → map of_pointer (filter (is_since z) (cond (length ps == 1) ps [])) ≡ aged_at z (home_of_pointers ps)
pointers_at-key z [] here = refl
pointers_at-key z (p ∷ []) here = by_test (is_since z p) refl
  where
    by_test : (s : Bool) → is_since z p ≡ s → map of_pointer (cond s (p ∷ []) []) ≡ (if s then z ∷ [] else [])
    by_test true said = ap (λ (a : Aged). a ∷ []) (same_age z (of_pointer p) here.0 said)
    by_test false said = refl
pointers_at-key z (p ∷ q ∷ ps) here =
    let more : (length (p ∷ q ∷ ps) == 1) ≡ false = grind (arith, nat_tests) in
    ap (λ b. map of_pointer (filter (is_since z) (cond b (p ∷ q ∷ ps) []))) more ∙ sym
    (ap (λ b. if b && (since_of p.mark == z.since) then z ∷ [] else []) more)

pointers_at : (z : Aged) (pool : Pool)
    → map of_pointer (filter (λ p. is_at z (of_pointer p)) (pool_prune.unique_pointers pool))
    ≡ aged_at z (home_of_pointers (tracked_at pool z.key))
pointers_at z pool =
    ap (map of_pointer)
    (filter_both (λ p. is_at z (of_pointer p)) (λ p. is_tracked p.mark && (count_at pool p.key == 1)) (is_since z)
    (λ p. tracks z.key p && (count_at pool z.key == 1)) (λ p. together p (key_eq p.key z.key) refl) pool.pointers
    ∙ ap (filter (is_since z)) (filter_where (tracks z.key) (count_at pool z.key == 1) pool.pointers))
    ∙ pointers_at-key z (tracked_at pool z.key)
    (all_tested (λ p. key_eq p.key z.key ≡ true) (tracks z.key) (λ p passes. second (is_tracked p.mark) (key_eq p.key z.key) passes)
    pool.pointers)
  where
    second : (a b : Bool) → a && b ≡ true → b ≡ true
    second true b both = both
    second false b both = absurd (false≢true both)

    turned : (s t c : Bool) → s && (t && c) ≡ s && ((t && true) && c)
    turned true true c = refl
    turned true false c = refl
    turned false t c = refl

    never : (s t c : Bool) → false ≡ s && ((t && false) && c)
    never true true c = refl
    never true false c = refl
    never false t c = refl

    together : (p : Pointer) (b : Bool) → key_eq p.key z.key ≡ b
        → (b && is_since z p) && (is_tracked p.mark && (count_at pool p.key == 1))
        ≡ is_since z p && ((is_tracked p.mark && b) && (count_at pool z.key == 1))
    together p true here =
        ap (λ (k : Key). is_since z p && (is_tracked p.mark && (count_at pool k == 1))) (key_eq-true p.key z.key here)
        ∙ turned (is_since z p) (is_tracked p.mark) (count_at pool z.key == 1)
    together p false apart = never (is_since z p) (is_tracked p.mark) (count_at pool z.key == 1)

-- ---- Both in order

same_at : (pool : Pool) (table : TableState) → Matches pool table → (z : Aged)
    → entries_at z (entries_found table) ≡ map of_pointer (filter (λ p. is_at z (of_pointer p)) (pool_prune.unique_pointers pool))
same_at pool table matches z =
    entries_at-is z (entries_found table) (rising_found table matches.sorted)
    ∙ ap (aged_at z) (sym (found-is table z.key matches.sorted))
    ∙ sym (aged_at-counted z (found table z.key))
    ∙ ap (aged_at z) (matches.homes z.key)
    ∙ sym (pointers_at z pool)

tied_entries : (z : Aged) (entries : List Entry)
    → filter (ties is_below z) (map of_entry (by_age entries)) ≡ map of_entry (filter (λ e. is_at z (of_entry e)) entries)
tied_entries z entries =
    filter_mapped of_entry (ties is_below z) (by_age entries)
    ∙ ap (map of_entry)
    (ranks_kept entries_inserted (λ e. ties is_below z (of_entry e))
    (λ x y one other. one_rank aged_order (of_entry x) (of_entry y) z one other) entries
    ∙ ap (λ (test : Entry → Bool). filter test entries) (λ i e. ties_are z (of_entry e) i))

tied_pointers : (z : Aged) (ps : List Pointer)
    → filter (ties is_below z) (map of_pointer (pool_prune.by_age ps)) ≡ map of_pointer (filter (λ p. is_at z (of_pointer p)) ps)
tied_pointers z ps =
    filter_mapped of_pointer (ties is_below z) (pool_prune.by_age ps)
    ∙ ap (map of_pointer)
    (ranks_kept pointers_inserted (λ p. ties is_below z (of_pointer p))
    (λ x y one other. one_rank aged_order (of_pointer x) (of_pointer y) z one other) ps
    ∙ ap (λ (test : Pointer → Bool). filter test ps) (λ i p. ties_are z (of_pointer p) i))

ages_same : (pool : Pool) (table : TableState) → Matches pool table
    → map of_entry (by_age (unique_homes (entries_found table))) ≡ map of_pointer (pool_prune.by_age (pool_prune.unique_pointers pool))
ages_same pool table matches =
    same_from_ties aged_order (map of_entry (by_age (unique_homes (entries_found table))))
    (map of_pointer (pool_prune.by_age (pool_prune.unique_pointers pool)))
    (pairs_mapped of_entry (λ a b. is_below b a ≡ false) (by_age (unique_homes (entries_found table)))
    (sorted_fold entries_inserted (unique_homes (entries_found table)) [] tt))
    (pairs_mapped of_pointer (λ a b. is_below b a ≡ false) (pool_prune.by_age (pool_prune.unique_pointers pool))
    (sorted_fold pointers_inserted (pool_prune.unique_pointers pool) [] tt))
    (λ z. tied_entries z (unique_homes (entries_found table)) ∙ same_at pool table matches z ∙ sym
    (tied_pointers z (pool_prune.unique_pointers pool)))

-- ---- What a rule takes

abbrev ages_taken : PruneRule → (moment count : ℕ) → List Aged → List Aged
ages_taken (Age days) moment count ages = filter (λ a. nat_le (a.since + pool_prune.day * days) moment) ages
ages_taken (Share percent) moment count ages = take (percent * count / 100) ages

entries_taken : (rule : PruneRule) (moment : ℕ) (unique : List Entry)
    → map of_entry (taken_by rule moment unique) ≡ ages_taken rule moment (length unique) (map of_entry (by_age unique))
entries_taken (Age days) moment unique =
    sym (filter_mapped of_entry (λ a. nat_le (a.since + pool_prune.day * days) moment) (by_age unique))
entries_taken (Share percent) moment unique = sym (take-map of_entry (share_of percent (length unique)) (by_age unique))

pointers_taken : (rule : PruneRule) (moment : ℕ) (unique : List Pointer)
    → map of_pointer (pool_prune.taken_by rule moment unique) ≡ ages_taken rule moment (length unique) (map of_pointer (pool_prune.by_age unique))
pointers_taken (Age days) moment unique =
    sym (filter_mapped of_pointer (λ a. nat_le (a.since + pool_prune.day * days) moment) (pool_prune.by_age unique))
pointers_taken (Share percent) moment unique = sym (take-map of_pointer (percent * length unique / 100) (pool_prune.by_age unique))

lengths_same : (unique : List Entry) (ps : List Pointer) → map of_entry (by_age unique) ≡ map of_pointer (pool_prune.by_age ps)
    → length unique ≡ length ps
lengths_same unique ps same =
    let entries : length (by_age unique) ≡ length unique = length-fold entries_inserted unique [] ∙ omega arith in
    let pointers : length (pool_prune.by_age ps) ≡ length ps = length-fold pointers_inserted ps [] ∙ omega arith in
    sym entries
    ∙ sym (length-map (by_age unique) of_entry)
    ∙ ap (λ (ages : List Aged). length ages) same
    ∙ length-map (pool_prune.by_age ps) of_pointer ∙ pointers

-- keys and moments of the homes that a prune takes are those of the pointers that it takes of the pool, in the same order
pub ages_pruned : (pool : Pool) (table : TableState) (rule : PruneRule) (moment : ℕ) → Matches pool table
    → map of_entry (candidates (entries_found table) rule moment) ≡ map of_pointer (pool_prune.pruned pool rule moment)
ages_pruned pool table rule moment matches =
    let unique = unique_homes (entries_found table) in
    let ps = pool_prune.unique_pointers pool in
    let same : map of_entry (by_age unique) ≡ map of_pointer (pool_prune.by_age ps) = ages_same pool table matches in
    entries_taken rule moment unique
    ∙ ap (λ n. ages_taken rule moment n (map of_entry (by_age unique))) (lengths_same unique ps same)
    ∙ ap (ages_taken rule moment (length ps)) same
    ∙ sym (pointers_taken rule moment ps)

gone_of_entries : (entries : List Entry) → map (λ a. Gone a.key) (map of_entry entries) ≡ map (λ e. Gone e.key) entries
gone_of_entries [] = refl
gone_of_entries (e ∷ es) = ap (λ (changes : List Change). Gone e.key ∷ changes) (gone_of_entries es)

gone_of_pointers : (ps : List Pointer) → map (λ a. Gone a.key) (map of_pointer ps) ≡ map (λ p. Gone p.key) ps
gone_of_pointers [] = refl
gone_of_pointers (p ∷ ps) = ap (λ (changes : List Change). Gone p.key ∷ changes) (gone_of_pointers ps)

-- so that they are gone is what a prune of the pool changes
pub changes_pruned : (pool : Pool) (table : TableState) (rule : PruneRule) (moment : ℕ) → Matches pool table
    → map (λ entry. Gone entry.key) (candidates (entries_found table) rule moment) ≡ pool_prune.prune_changes pool rule moment
changes_pruned pool table rule moment matches =
    sym (gone_of_entries (candidates (entries_found table) rule moment))
    ∙ ap (map (λ (a : Aged). Gone a.key)) (ages_pruned pool table rule moment matches)
    ∙ gone_of_pointers (pool_prune.pruned pool rule moment)
