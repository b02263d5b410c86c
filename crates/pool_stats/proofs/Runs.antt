-- The runs of sorted keys are the keys, each once, with how often each stands there.
use Rattle.std.proofs.Common.{◌≡◌, ℕ, ◌+◌, Bool, true, false, cond, List, [], ◌∷◌, map, refl, sym, ap, ◌∙◌, arith, ◌||◌, if◌then◌else◌}
use Rattle.std.specs.List.{dedup, dedup_from}
use Rattle.std.specs.List.Sorted.{IsSorted, IsPermutation}
use Rattle.std.specs.declared.cmp.Ordering.TheVariants.{Less}
use Rattle.std.proofs.lemmas.List.Kept.{IsStrictlySortedBy-dedup}
use Rattle.std.proofs.lemmas.List.Sorted.{sum_by-IsPermutation, list_any-IsPermutation}
use Rattle.std.proofs.lemmas.List.Sums.{sum_by-cons}
use Rattle.ddt_entry.specs.declared.key.Key.{Key}
use Rattle.ddt_entry.specs.Keys.{key_cmp, key_eq}
use Rattle.ddt_entry.proofs.KeyLaws.{key_cmp_total, is_eq-key_cmp, key_eq-true, key_eq-same, key_eq-symm}
use Rattle.pool_stats.specs.Counts.{count_of, sorted_keys, key_counts, runs_from, runs_of}
use Rattle.pool_stats.specs.declared.counts.KeyCount.{KeyCount}
use Rattle.pool_stats.proofs.Maps.{count_by-none}
use Rattle.pool_model.proofs.Loops.{map-same}
use Rattle.pool_stats.proofs.Orders.{has, AreRising, AreBehind, differ, rising-behind, rising-tail, has-behind, rising-sorted_keys, has-sorted_keys, rising_one}
use Rattle.pool_model.proofs.Lists.{all_from}

-- a key with how often it stands among these, of which so many of the first have been seen
abbrev counted : (first : Key) (count : ℕ) → List Key → Key → KeyCount
counted first count keys key = record { key = key; count = (cond (key_eq first key) count 0) + count_of keys key }

has-dedup_from : (key : Key) (keys : List Key) (q : Key) → has (dedup_from key_eq key keys) q ≡ (key_eq key q || has keys q)
has-dedup_from key [] q = refl
has-dedup_from key (k ∷ ks) q =
    (elim (key_eq k key) as
    (λ b. key_eq k key ≡ b
    → has (cond b (dedup_from key_eq key ks) (key ∷ dedup_from key_eq k ks)) q ≡ (key_eq key q || (key_eq k q || has ks q))) [
      | true ↦ λ e. has-dedup_from key ks q ∙ twice (key_eq key q) (has ks q)
          ∙ ap (λ (x : Key). key_eq key q || (key_eq x q || has ks q)) (sym (key_eq-true k key e))
      | false ↦ λ e. ap (λ b. key_eq key q || b) (has-dedup_from k ks q)
    ])
    refl
  where
    twice : (a b : Bool) → (a || b) ≡ (a || (a || b))
    twice true b = refl
    twice false b = refl

-- one more of the first key seen, and one less to come
taken : (k key q : Key) (count : ℕ) (keys : List Key) → k ≡ key
    → (cond (key_eq key q) (count + 1) 0) + count_of keys q ≡ (cond (key_eq key q) count 0) + count_of (k ∷ keys) q
taken k key q count keys same =
    let step : count_of (k ∷ keys) q ≡ cond (key_eq k q) 1 0 + count_of keys q = sum_by-cons (λ (x : Key). cond (key_eq x q) 1 0) k keys in
    rw (step, same)
    (elim (key_eq key q) as (λ b. (cond b (count + 1) 0) + count_of keys q ≡ (cond b count 0) + (cond b 1 0 + count_of keys q))
    [ true ↦ omega arith | false ↦ omega arith ])

-- of another key there are as many as before
passed : (k first q : Key) (count : ℕ) (keys : List Key) → key_eq first q ≡ false
    → (cond (key_eq k q) 1 0) + count_of keys q ≡ (cond (key_eq first q) count 0) + count_of (k ∷ keys) q
passed k first q count keys other =
    let step : count_of (k ∷ keys) q ≡ cond (key_eq k q) 1 0 + count_of keys q = sum_by-cons (λ (x : Key). cond (key_eq x q) 1 0) k keys in
    rw (step, other) (omega arith)

-- all of the first key have been seen
all_seen : (first : Key) (count : ℕ) (keys : List Key) → has keys first ≡ false
    → count ≡ (cond (key_eq first first) count 0) + count_of keys first
all_seen first count keys none = rw (key_eq-same first, count_by-none (λ k. key_eq k first) keys none) (omega arith)

runs_from-is : (key : Key) (count : ℕ) (keys : List Key) → AreRising (dedup_from key_eq key keys)
    → runs_from key count keys ≡ map (counted key count keys) (dedup_from key_eq key keys)
runs_from-is key count [] rising = ap (λ n. record { key = key; count = n } ∷ []) (all_seen key count [] refl)
runs_from-is key count (k ∷ ks) rising =
    (elim (key_eq k key) as
    (λ b. key_eq k key ≡ b → AreRising (cond b (dedup_from key_eq key ks) (key ∷ dedup_from key_eq k ks))
    → (if b then runs_from key (count + 1) ks else record { key = key; count = count } ∷ runs_from k 1 ks) ≡ map
    (counted key count (k ∷ ks)) (cond b (dedup_from key_eq key ks) (key ∷ dedup_from key_eq k ks))) [
      | true ↦ λ e up.
          runs_from-is key (count + 1) ks up
          ∙ ap (λ f. map f (dedup_from key_eq key ks)) (λ i q. record { key = q; count = taken k key q count ks (key_eq-true k key e) i })
      | false ↦ λ e up.
          let behind : AreBehind key (dedup_from key_eq k ks) = rising-behind key (dedup_from key_eq k ks) up in
          let none : has (k ∷ ks) key ≡ false = sym (has-dedup_from k ks key) ∙ has-behind key (dedup_from key_eq k ks) behind in
          ap (λ n. record { key = key; count = n } ∷ runs_from k 1 ks) (all_seen key count (k ∷ ks) none)
          ∙ ap (λ l. counted key count (k ∷ ks) key ∷ l)
          (runs_from-is k 1 ks (rising-tail key (dedup_from key_eq k ks) up)
          ∙ map-same (counted k 1 ks) (counted key count (k ∷ ks)) (dedup_from key_eq k ks)
          (all_from (λ q. key_cmp key q ≡ Less) (λ q. counted k 1 ks q ≡ counted key count (k ∷ ks) q)
          (λ q less. ap (λ n. record { key = q; count = n }) (passed k key q count ks (key_eq-symm key q ∙ differ key q less)))
          (dedup_from key_eq k ks) behind))
    ])
    refl rising

runs_of-is : (keys : List Key) → AreRising (dedup key_eq keys)
    → runs_of keys ≡ map (λ key. record { key = key; count = count_of keys key }) (dedup key_eq keys)
runs_of-is [] rising = refl
runs_of-is (k ∷ ks) rising =
    runs_from-is k 1 ks rising
    ∙ ap (λ f. map f (dedup_from key_eq k ks))
    (λ i q. record { key = q; count = sym (sum_by-cons (λ (x : Key). cond (key_eq x q) 1 0) k ks) i })

has-dedup : (keys : List Key) (q : Key) → has (dedup key_eq keys) q ≡ has keys q
has-dedup [] q = refl
has-dedup (k ∷ ks) q = has-dedup_from k ks q

-- the runs of the sorted keys are each key with its count
pub runs_of-sorted : (keys sorted : List Key) → IsPermutation keys sorted → IsSorted key_cmp sorted → runs_of sorted ≡ key_counts keys
runs_of-sorted keys sorted moved in_order =
    let up : AreRising (dedup key_eq sorted) = IsStrictlySortedBy-dedup key_cmp_total (λ a b. sym (is_eq-key_cmp a b)) sorted in_order in
    let same : (q : Key)
    → has (dedup key_eq sorted) q ≡ has (sorted_keys keys) q = λ q. has-dedup sorted q
    ∙ sym (list_any-IsPermutation (λ k. key_eq k q) keys sorted moved) ∙ sym (has-sorted_keys keys q) in
    runs_of-is sorted up
    ∙ ap (map (λ key. record { key = key; count = count_of sorted key }))
    (rising_one (dedup key_eq sorted) (sorted_keys keys) up (rising-sorted_keys keys) same)
    ∙ ap (λ f. map f (sorted_keys keys))
    (λ i q. record { key = q; count = sum_by-IsPermutation (λ (x : Key). cond (key_eq x q) 1 0) keys sorted moved i })
