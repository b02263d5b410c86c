-- What `stat` prints of a pool, from the sums over the homes that are counted.
use Rattle.std.proofs.Common.{◌≡◌, ℕ, ◌+◌, ◌*◌, ◌^◌, ◌<◌, Bool, true, false, cond, ◌||◌, ◌==◌, List, [], ◌∷◌, length, map, filter, sum_by, count_by, nat_lt, zero, suc, refl, sym, ap, subst, ◌∙◌, arith}
use Rattle.std.specs.Prelude.{if◌then◌else◌}
use Rattle.std.specs.List.{AllByRecursion, range_with_len}
use Rattle.std.proofs.lemmas.Bool.Decides.{nat_tests}
use Rattle.std.proofs.lemmas.List.Sums.{sum_by-cons, sum_by-le, length-filter}
use Rattle.std.proofs.lemmas.List.{length-map}
use Rattle.ddt_entry.specs.declared.key.Key.{Key}
use Rattle.ddt_entry.specs.declared.entry.Entry.{Entry}
use Rattle.ddt_entry.specs.Keys.{key_eq}
use Rattle.ddt_entry.proofs.KeyLaws.{key_eq-true, key_eq-same, key_eq-symm}
use Rattle.pool_model.specs.Pool.{Pool}
use Rattle.pool_model.specs.Stats.{is_in_bucket, stats_of}
use Rattle.pool_model.specs.declared.stats.Stats.{Stats}
use Rattle.pool_model.proofs.Loops.{all_mapped}
use Rattle.pool_stats.specs.Counts.{tracked_keys, count_of, sorted_keys, key_counts, bucket_in, stats_in, AreFew}
use Rattle.pool_stats.specs.References.{reference_of, is_tracked, is_loose, is_plain}
use Rattle.pool_stats.specs.Totals.{wrapped, one_of, in_bucket, key_sum, totals_in, moved, bucket_told, unique_in, stats_by, key_count, AreHomesOf}
use Rattle.pool_stats.specs.declared.counts.KeyCount.{KeyCount}
use Rattle.pool_stats.specs.declared.reference.Reference.{Reference}
use Rattle.pool_stats.specs.declared.reference.Standing.{Standing}
use Rattle.pool_stats.specs.declared.reference.Standing.TheVariants.{Plain, Tracked, Loose}
use Rattle.pool_stats.proofs.Bounds.{AreFew-filter, AreFew-key_counts}
use Rattle.pool_stats.proofs.Maps.{sum_by-map}
use Rattle.pool_stats.proofs.Pools.{key_counts-pool, counts_are}
use Rattle.pool_stats.proofs.Orders.{has, AreRising, rising-behind, rising-tail, rising-sorted_keys, has-sorted_keys, has-behind}

-- ---- Sums that pass over what isn't seen

abbrev Counted : KeyCount → Type 0
Counted counted = nat_lt 0 counted.count ≡ true

module _ (passes : ℕ → Bool) where
  abbrev seen : ℕ → ℕ
  seen count = if passes count then count else 0

  abbrev passing : List KeyCount → List KeyCount
  passing counts = filter (λ counted. passes counted.count) counts

  -- a number of each key that is seen
  passed : (number : KeyCount → ℕ) (part : KeyCount → ℕ)
      → ((k : KeyCount) → passes k.count ≡ true → Counted k → part k ≡ number k)
      → ((k : KeyCount) → passes k.count ≡ false → part k ≡ 0)
      → (counts : List KeyCount) → AllByRecursion Counted counts → sum_by part counts ≡ sum_by number (passing counts)
  passed number part one none [] all = refl
  passed number part one none (k ∷ ks) all = by_test (passed number part one none ks all.1) (passes k.count) refl
    where
      by_test : sum_by part ks ≡ sum_by number (passing ks) → (b : Bool) → passes k.count ≡ b
          → sum_by part (k ∷ ks) ≡ sum_by number (cond b (k ∷ passing ks) (passing ks))
      by_test rest true there =
          omega (arith, rest, one k there all.0, sum_by-cons part k ks, sum_by-cons number k (passing ks))
      by_test rest false there = omega (arith, rest, none k there, sum_by-cons part k ks)

  one_seen : (k : KeyCount) → passes k.count ≡ true → Counted k → one_of (seen k.count) ≡ 1
  one_seen k there counted =
      ap (λ b. one_of (if b then k.count else 0)) there ∙ ap (λ b. if b then 1 else 0) counted

  none_seen : (k : KeyCount) → passes k.count ≡ false → one_of (seen k.count) ≡ 0
  none_seen k there = ap (λ b. one_of (if b then k.count else 0)) there

  ones : (counts : List KeyCount) → AllByRecursion Counted counts
      → sum_by (λ k. one_of (seen k.count)) counts ≡ sum_by (λ _. 1) (passing counts)
  ones = passed (λ _. 1) (λ k. one_of (seen k.count)) one_seen none_seen

  once : (counts : List KeyCount) → AllByRecursion Counted counts
      → sum_by (λ k. one_of (seen k.count) * k.key.len) counts ≡ sum_by (λ k. k.key.len) (passing counts)
  once = passed (λ k. k.key.len) (λ k. one_of (seen k.count) * k.key.len)
      (λ k there counted. ap (λ n. n * k.key.len) (one_seen k there counted) ∙ omega arith)
      (λ k there. ap (λ n. n * k.key.len) (none_seen k there) ∙ omega arith)

  whole : (counts : List KeyCount) → AllByRecursion Counted counts
      → sum_by (λ k. seen k.count * k.key.len) counts ≡ sum_by (λ k. k.key.len * k.count) (passing counts)
  whole = passed (λ k. k.key.len * k.count) (λ k. seen k.count * k.key.len)
      (λ k there counted. ap (λ b. (if b then k.count else 0) * k.key.len) there ∙ swap k.count k.key.len)
      (λ k there. ap (λ b. (if b then k.count else 0) * k.key.len) there ∙ omega arith)
    where
      swap : (a b : ℕ) → a * b ≡ b * a
      swap a b = omega arith

sum_ones : {X : Type 0} (xs : List X) → sum_by (λ _. 1) xs ≡ length xs
sum_ones [] = refl
sum_ones {X} (x ∷ xs) = omega (arith, sum_ones xs, sum_by-cons (λ (_ : X). 1) x xs)

-- ---- Sums over keys are sums over pointers

module _ (weight : Key → ℕ) where
  -- of rising keys one is this key
  nothing_behind : (key : Key) (keys : List Key) → has keys key ≡ false → sum_by (λ k. weight k * cond (key_eq key k) 1 0) keys ≡ 0
  nothing_behind key [] none = refl
  nothing_behind key (k ∷ ks) none = by_test (nothing_behind key ks) (key_eq k key) refl none
    where
      by_test : (has ks key ≡ false → sum_by (λ k. weight k * cond (key_eq key k) 1 0) ks ≡ 0) → (b : Bool) → key_eq k key ≡ b
          → (b || has ks key) ≡ false → sum_by (λ k. weight k * cond (key_eq key k) 1 0) (k ∷ ks) ≡ 0
      by_test rest true same none = absurd (cc none)
      by_test rest false apart none =
          let zero_here : weight k * cond (key_eq key k) 1 0 ≡ 0 =
          ap (λ b. weight k * cond b 1 0) (key_eq-symm key k ∙ apart) ∙ omega arith in
          omega (arith, zero_here, rest none, sum_by-cons (λ (x : Key). weight x * cond (key_eq key x) 1 0) k ks)

  one_among : (key : Key) (keys : List Key) → AreRising keys → has keys key ≡ true
      → sum_by (λ k. weight k * cond (key_eq key k) 1 0) keys ≡ weight key
  one_among key [] rising there = absurd (cc there)
  one_among key (k ∷ ks) rising there = by_test (one_among key ks (rising-tail k ks rising)) (key_eq k key) refl there
    where
      by_test : (has ks key ≡ true → sum_by (λ k. weight k * cond (key_eq key k) 1 0) ks ≡ weight key) → (b : Bool) → key_eq k key ≡ b
          → (b || has ks key) ≡ true → sum_by (λ k. weight k * cond (key_eq key k) 1 0) (k ∷ ks) ≡ weight key
      by_test rest true same there =
          let equal : k ≡ key = key_eq-true k key same in
          let here : weight k * cond (key_eq key k) 1 0 ≡ weight key =
          ap (λ b. weight k * cond b 1 0) (key_eq-symm key k ∙ same) ∙ ap (λ q. weight q * 1) equal ∙ omega arith in
          omega (
            arith,
            here,
            nothing_behind key ks (ap (has ks) (sym equal) ∙ has-behind k ks (rising-behind k ks rising)),
            sum_by-cons (λ (x : Key). weight x * cond (key_eq key x) 1 0) k ks,
          )
      by_test rest false apart there =
          let zero_here : weight k * cond (key_eq key k) 1 0 ≡ 0 =
          ap (λ b. weight k * cond b 1 0) (key_eq-symm key k ∙ apart) ∙ omega arith in
          omega (
            arith,
            zero_here,
            rest there,
            sum_by-cons (λ (x : Key). weight x * cond (key_eq key x) 1 0) k ks,
          )

  no_sum : (keys : List Key) → sum_by (λ k. weight k * 0) keys ≡ 0
  no_sum [] = refl
  no_sum (k ∷ ks) = omega (arith, no_sum ks, sum_by-cons (λ (x : Key). weight x * 0) k ks)

  split : (key : Key) (more : List Key) (keys : List Key)
      → sum_by (λ k. weight k * count_of (key ∷ more) k) keys
      ≡ sum_by (λ k. weight k * cond (key_eq key k) 1 0) keys + sum_by (λ k. weight k * count_of more k) keys
  split key more [] = refl
  split key more (k ∷ ks) =
      omega (
        arith,
        split key more ks,
        at_one,
        sum_by-cons (λ (x : Key). weight x * count_of (key ∷ more) x) k ks,
        sum_by-cons (λ (x : Key). weight x * cond (key_eq key x) 1 0) k ks,
        sum_by-cons (λ (x : Key). weight x * count_of more x) k ks,
      )
    where
      spread : (w a b : ℕ) → w * (a + b) ≡ w * a + w * b
      spread w a b = grind arith

      at_one : weight k * count_of (key ∷ more) k ≡ weight k * cond (key_eq key k) 1 0 + weight k * count_of more k
      at_one = ap (λ n. weight k * n) (sum_by-cons (λ (x : Key). cond (key_eq x k) 1 0) key more)
          ∙ spread (weight k) (cond (key_eq key k) 1 0) (count_of more k)

  -- each of these keys is among rising ones
  weighed : (keys sorted : List Key) → AreRising sorted → ((q : Key) → has keys q ≡ true → has sorted q ≡ true)
      → sum_by (λ k. weight k * count_of keys k) sorted ≡ sum_by weight keys
  weighed [] sorted rising among = no_sum sorted
  weighed (key ∷ keys) sorted rising among =
      omega (
        arith,
        split key keys sorted,
        one_among key sorted rising (among key (ap (λ b. b || has keys key) (key_eq-same key))),
        weighed keys sorted rising (λ q there. among q (ap (λ b. key_eq key q || b) there ∙ or_true (key_eq key q))),
        sum_by-cons weight key keys,
      )
    where
      or_true : (b : Bool) → (b || true) ≡ true
      or_true true = refl
      or_true false = refl

  pub over_pointers : (keys : List Key)
      → sum_by (λ k. weight k * count_of keys k) (sorted_keys keys) ≡ sum_by weight keys
  over_pointers keys =
      weighed keys (sorted_keys keys) (rising-sorted_keys keys) (λ q there. has-sorted_keys keys q ∙ there)

-- ---- The statistics

pass_all : {X : Type 0} (xs : List X) → filter (λ _. true) xs ≡ xs
pass_all [] = refl
pass_all (x ∷ xs) = ap (λ ys. x ∷ ys) (pass_all xs)

small : (n : ℕ) → n < 2 ^ 64 → wrapped n ≡ n
small n below = omega (arith, below)

is_one : (count : ℕ) → is_in_bucket 0 count ≡ (count == 1)
is_one count = grind (arith, nat_tests)

counted_alike : {X : Type 0} (p q : X → Bool) → ((x : X) → p x ≡ q x) → (xs : List X) → count_by p xs ≡ count_by q xs
counted_alike p q alike xs = ap (λ r. count_by r xs) (λ i x. alike x i)

-- one pointer or more
one_or_more : (counts : List KeyCount) → AllByRecursion Counted counts
    → length counts ≡ count_by (λ k. k.count == 1) counts + count_by (λ k. nat_lt 1 k.count) counts
one_or_more [] all = refl
one_or_more (k ∷ ks) all =
    omega (
      arith,
      one_or_more ks all.1,
      at_one k.count all.0,
      sum_by-cons (λ (x : KeyCount). cond (x.count == 1) 1 0) k ks,
      sum_by-cons (λ (x : KeyCount). cond (nat_lt 1 x.count) 1 0) k ks,
    )
  where
    at_one : (count : ℕ) → nat_lt 0 count ≡ true → cond (count == 1) 1 0 + cond (nat_lt 1 count) 1 0 ≡ 1
    at_one zero there = absurd (cc there)
    at_one (suc zero) there = refl
    at_one (suc (suc count)) there = grind (arith, nat_tests)

-- each pointer is counted, counted no more, or outside the table
each_way : (references : List Reference)
    → length references ≡ count_by (λ r. is_plain r.standing) references
    + count_by (λ r. is_tracked r.standing) references + count_by (λ r. is_loose r.standing) references
each_way [] = refl
each_way (r ∷ rs) =
    omega (
      arith,
      each_way rs,
      at_one r.standing,
      sum_by-cons (λ (x : Reference). cond (is_plain x.standing) 1 0) r rs,
      sum_by-cons (λ (x : Reference). cond (is_tracked x.standing) 1 0) r rs,
      sum_by-cons (λ (x : Reference). cond (is_loose x.standing) 1 0) r rs,
    )
  where
    at_one : (standing : Standing)
        → cond (is_plain standing) 1 0 + cond (is_tracked standing) 1 0 + cond (is_loose standing) 1 0 ≡ 1
    at_one Plain = refl
    at_one Tracked = refl
    at_one Loose = refl

length-keys : {X : Type 0} (f : X → Key) (xs : List X) → length (map f xs) ≡ length xs
length-keys f [] = refl
length-keys f (x ∷ xs) = omega (arith, length-keys f xs)

module _ (pool : Pool) (homes : List Entry) (slots plain : ℕ) (are : AreHomesOf pool homes slots plain) where
  abbrev counts : List KeyCount
  counts = map key_count homes

  abbrev references : List Reference
  references = map reference_of pool.pointers

  abbrev keys : List Key
  keys = tracked_keys references

  counts_are_of : counts ≡ key_counts keys
  counts_are_of = are.counts ∙ sym (key_counts-pool pool)

  few : AreFew counts
  few = subst AreFew (sym counts_are_of) (AreFew-key_counts references are.small)

  all_counted : AllByRecursion Counted counts
  all_counted = all_mapped Counted key_count homes are.counted

  -- what is summed over homes is summed over keys with their counts
  over_counts : (f : KeyCount → ℕ) → sum_by (λ (e : Entry). f (key_count e)) homes ≡ sum_by f counts
  over_counts f = sym (sum_by-map f key_count homes)

  module _ (passes : ℕ → Bool) where
    abbrev members : List KeyCount
    members = passing passes counts

    members_few : AreFew members
    members_few = AreFew-filter (λ k. passes k.count) counts few

    keys_seen : (key_sum (seen passes) homes).keys ≡ length members
    keys_seen =
        ap wrapped (over_counts (λ k. one_of (seen passes k.count)) ∙ ones passes counts all_counted ∙ sum_ones members)
        ∙ small (length members) (omega (arith, members_few.few))

    once_seen : (key_sum (seen passes) homes).allocated ≡ sum_by (λ k. k.key.len) members
    once_seen =
        ap wrapped (over_counts (λ k. one_of (seen passes k.count) * k.key.len) ∙ once passes counts all_counted)
        ∙ small (sum_by (λ k. k.key.len) members)
        (omega (arith, members_few.few, sum_by-le (λ k. k.key.len) 4096 members members_few.short))

    whole_seen : (key_sum (seen passes) homes).referenced ≡ sum_by (λ k. k.key.len * k.count) members
    whole_seen =
        ap wrapped (over_counts (λ k. seen passes k.count * k.key.len) ∙ whole passes counts all_counted)
        ∙ small (sum_by (λ k. k.key.len * k.count) members)
        (omega (arith, members_few.few, sum_by-le (λ k. k.key.len * k.count) (2 ^ 32) members members_few.bytes))

  bucket_is : (b : ℕ) → bucket_told b (key_sum (in_bucket b) homes) ≡ bucket_in counts b
  bucket_is b = λ i. record {
    low = 2 ^ b;
    keys = keys_seen (is_in_bucket b) i;
    allocated = once_seen (is_in_bucket b) i;
    referenced = whole_seen (is_in_bucket b) i;
  }

  abbrev everyone : ℕ → Bool
  everyone count = true

  all_keys : (totals_in homes).all.keys ≡ length counts
  all_keys = keys_seen everyone ∙ ap length (pass_all counts)

  all_once : (totals_in homes).all.allocated ≡ sum_by (λ k. k.key.len) counts
  all_once = once_seen everyone ∙ ap (sum_by (λ k. k.key.len)) (pass_all counts)

  single : unique_in (totals_in homes) ≡ count_by (λ k. k.count == 1) counts
  single =
      keys_seen (is_in_bucket 0) ∙ length-filter (λ (k : KeyCount). is_in_bucket 0 k.count) counts
      ∙ counted_alike (λ (k : KeyCount). is_in_bucket 0 k.count) (λ (k : KeyCount). k.count == 1) (λ k. is_one k.count) counts

  by_keys : (weight : Key → ℕ) → sum_by (λ k. weight k.key * k.count) counts ≡ sum_by weight keys
  by_keys weight =
      ap (sum_by (λ k. weight k.key * k.count)) counts_are_of
      ∙ sum_by-map (λ (k : KeyCount). weight k.key * k.count) (λ key. record { key = key; count = count_of keys key }) (sorted_keys keys)
      ∙ over_pointers weight keys

  abbrev tracked_ones : List Reference
  tracked_ones = filter (λ r. is_tracked r.standing) references

  times_one : (n : ℕ) → n ≡ 1 * n
  times_one n = omega arith

  refs_sum : sum_by (λ (e : Entry). e.home.count) homes ≡ count_by (λ r. is_tracked r.standing) references
  refs_sum =
      over_counts (λ k. k.count)
      ∙ ap (λ f. sum_by f counts) (λ i (k : KeyCount). times_one k.count i)
      ∙ by_keys (λ _. 1)
      ∙ sum_ones keys ∙ length-keys (λ (r : Reference). r.key) tracked_ones
      ∙ length-filter (λ (r : Reference). is_tracked r.standing) references

  refs_are : (totals_in homes).refs ≡ count_by (λ r. is_tracked r.standing) references
  refs_are =
      ap wrapped refs_sum
      ∙ small (count_by (λ r. is_tracked r.standing) references)
      (omega (arith, are.small.few, each_way references))

  bytes_are : (totals_in homes).all.referenced ≡ sum_by (λ r. r.key.len) tracked_ones
  bytes_are =
      whole_seen everyone ∙ ap (sum_by (λ k. k.key.len * k.count)) (pass_all counts)
      ∙ by_keys (λ k. k.len) ∙ sum_by-map (λ (k : Key). k.len) (λ (r : Reference). r.key) tracked_ones

  outside_are : plain ≡ count_by (λ r. is_plain r.standing) references
  outside_are = are.outside ∙ sym (ap (λ (s : Stats). s.plain) (counts_are pool))

  pointers_are : slots ≡ length references
  pointers_are = are.pointers ∙ sym (length-map pool.pointers reference_of)

  loose_are : moved (moved slots plain 0) (totals_in homes).refs 0 ≡ count_by (λ r. is_loose r.standing) references
  loose_are = omega (arith, are.small.few, each_way references, outside_are, pointers_are, refs_are)

  double : moved (totals_in homes).all.keys (unique_in (totals_in homes)) 0 ≡ count_by (λ k. nat_lt 1 k.count) counts
  double = omega (arith, all_keys, single, one_or_more counts all_counted, few.few)

  told : stats_by (totals_in homes) slots plain ≡ stats_in references counts
  told = λ i. record {
    keys = all_keys i;
    unique = single i;
    duplicate = double i;
    refs = refs_are i;
    loose = loose_are i;
    plain = outside_are i;
    allocated = all_once i;
    referenced = bytes_are i;
    buckets = map (λ b. bucket_is b i) (range_with_len 0 21);
  }

  -- what the sums over a pool's counted homes tell is what the pool's statistics are
  pub stats_are : stats_by (totals_in homes) slots plain ≡ stats_of pool
  stats_are = told ∙ ap (stats_in references) are.counts ∙ counts_are pool
