-- The statistics of a pool, from its pointers' keys and standings.
use Rattle.std.proofs.Common.{◌≡◌, ℕ, ◌+◌, ◌*◌, ◌^◌, Bool, true, false, cond, List, [], ◌∷◌, length, map, fold, filter, sum_by, count_by, refl, ap, ◌∙◌, arith, ◌&&◌, ◌==◌, nat_lt, if◌then◌else◌}
use Rattle.std.specs.List.{range_with_len}
use Rattle.std.proofs.lemmas.List.Sums.{sum_by-cons}
use Rattle.ddt_entry.specs.declared.key.Key.{Key}
use Rattle.ddt_entry.specs.Keys.{key_eq}
use Rattle.pool_model.specs.Pool.{Pool, Pointer, Mark, plain, tracked, loose, with_key, keys_in, count_at, tracks, is_tracked as is_tracked_mark, is_loose as is_loose_mark, is_plain as is_plain_mark}
use Rattle.pool_model.specs.Stats.{stats_of, bucket_of, is_in_bucket}
use Rattle.pool_model.specs.declared.stats.Bucket.{Bucket}
use Rattle.pool_stats.specs.Counts.{tracked_keys, count_of, key_counts, bucket_in, stats_in}
use Rattle.pool_stats.specs.References.{reference_of, standing_of, is_tracked, is_loose, is_plain}
use Rattle.pool_stats.specs.declared.counts.KeyCount.{KeyCount}
use Rattle.pool_stats.specs.declared.reference.Reference.{Reference}
use Rattle.pool_stats.proofs.Maps.{sum_by-map, count_by-map, filter-map}

-- a mark and its standing are counted alike
tracked_alike : (mark : Mark) → is_tracked (standing_of mark) ≡ is_tracked_mark mark
tracked_alike plain = refl
tracked_alike (tracked since) = refl
tracked_alike loose = refl

loose_alike : (mark : Mark) → is_loose (standing_of mark) ≡ is_loose_mark mark
loose_alike plain = refl
loose_alike (tracked since) = refl
loose_alike loose = refl

plain_alike : (mark : Mark) → is_plain (standing_of mark) ≡ is_plain_mark mark
plain_alike plain = refl
plain_alike (tracked since) = refl
plain_alike loose = refl

one_more : {X : Type 0} (p : Key → Bool) (key : Key) (keys : List Key) (x : X) (xs : List X) → count_by p keys ≡ length xs
    → count_by p (key ∷ keys) ≡ length (cond (p key) (x ∷ xs) xs)
one_more p key keys x xs same =
    sum_by-cons (λ k. cond (p k) 1 0) key keys
    ∙ elim (p key) as (λ b. cond b 1 0 + count_by p keys ≡ length (cond b (x ∷ xs) xs))
    [ true ↦ omega (arith, same) | false ↦ omega (arith, same) ]

count_of-pointers : (key : Key) (pointers : List Pointer)
    → count_of (tracked_keys (map reference_of pointers)) key ≡ length (filter (tracks key) pointers)
count_of-pointers key [] = refl
count_of-pointers key (p ∷ ps) =
    let rest = count_of-pointers key ps in
    let others : List Reference = filter (λ reference. is_tracked reference.standing) (map reference_of ps) in
    let left : List Pointer = filter (tracks key) ps in
    elim (p.mark) as (λ mark. count_of
    (map (λ (reference : Reference). reference.key) (cond (is_tracked (standing_of mark)) (reference_of p ∷ others) others)) key ≡ length
    (cond (is_tracked_mark mark && key_eq p.key key) (p ∷ left) left)) [
      | plain ↦ rest
      | tracked since ↦ one_more (λ k. key_eq k key) p.key (map (λ (reference : Reference). reference.key) others) p left rest
      | loose ↦ rest
    ]

keys_from-pointers : (keys : List Key) (pointers : List Pointer)
    → fold (λ sorted key. with_key key sorted) keys (tracked_keys (map reference_of pointers)) ≡ fold
    (λ keys pointer. if is_tracked_mark pointer.mark then with_key pointer.key keys else keys) keys pointers
keys_from-pointers keys [] = refl
keys_from-pointers keys (p ∷ ps) =
    let others : List Reference = filter (λ reference. is_tracked reference.standing) (map reference_of ps) in
    let more : List Key → Pointer → List Key = λ keys pointer. if is_tracked_mark pointer.mark then with_key pointer.key keys else keys in
    elim (p.mark) as (λ mark. fold (λ sorted key. with_key key sorted) keys
    (map (λ (reference : Reference). reference.key) (cond (is_tracked (standing_of mark)) (reference_of p ∷ others) others)) ≡ fold more
    (if is_tracked_mark mark then with_key p.key keys else keys) ps)
    [ plain ↦ keys_from-pointers keys ps | tracked since ↦ keys_from-pointers (with_key p.key keys) ps | loose ↦ keys_from-pointers keys ps ]

abbrev counted_at : Pool → Key → KeyCount
counted_at pool key = record { key = key; count = count_at pool key }

-- the counts of a pool's keys
pub key_counts-pool : (pool : Pool) → key_counts (tracked_keys (map reference_of pool.pointers)) ≡ map (counted_at pool) (keys_in pool)
key_counts-pool pool =
    ap (map (λ key. record { key = key; count = count_of (tracked_keys (map reference_of pool.pointers)) key }))
    (keys_from-pointers [] pool.pointers)
    ∙ ap (λ f. map f (keys_in pool)) (λ i q. record { key = q; count = count_of-pointers q pool.pointers i })

length-counted : (pool : Pool) (keys : List Key) → length (map (counted_at pool) keys) ≡ length keys
length-counted pool [] = refl
length-counted pool (k ∷ ks) = omega (arith, length-counted pool ks)

bucket_in-pool : (pool : Pool) (b : ℕ) → bucket_in (map (counted_at pool) (keys_in pool)) b ≡ bucket_of pool b
bucket_in-pool pool b =
    let keys : List Key = keys_in pool in
    let members : List Key = filter (λ key. is_in_bucket b (count_at pool key)) keys in
    let are : filter (λ (counted : KeyCount). is_in_bucket b counted.count) (map (counted_at pool) keys) ≡ map
    (counted_at pool) members = filter-map (λ counted. is_in_bucket b counted.count) (counted_at pool) keys in
    let one : length (map (counted_at pool) members) ≡ length members = length-counted pool members in
    let once = sum_by-map (λ (counted : KeyCount). counted.key.len) (counted_at pool) members in
    let all = sum_by-map (λ (counted : KeyCount). counted.key.len * counted.count) (counted_at pool) members in
    let made : List KeyCount
    → Bucket = λ ms. record
    { low = 2 ^ b; keys = length ms; allocated = sum_by (λ (counted : KeyCount). counted.key.len) ms; referenced = sum_by (λ (counted : KeyCount). counted.key.len * counted.count) ms } in
    ap made are ∙ (λ i. record { low = 2 ^ b; keys = one i; allocated = once i; referenced = all i })

count_by-alike : {X : Type 0} (p q : X → Bool) → ((x : X) → p x ≡ q x) → (xs : List X) → count_by p xs ≡ count_by q xs
count_by-alike p q alike xs = ap (λ r. count_by r xs) (λ i x. alike x i)

referenced_are : (pointers : List Pointer)
    → sum_by (λ (reference : Reference). reference.key.len)
    (filter (λ (reference : Reference). is_tracked reference.standing) (map reference_of pointers)) ≡ sum_by
    (λ (pointer : Pointer). pointer.key.len) (filter (λ (pointer : Pointer). is_tracked_mark pointer.mark) pointers)
referenced_are pointers =
    ap (sum_by (λ (reference : Reference). reference.key.len))
    (filter-map (λ (reference : Reference). is_tracked reference.standing) reference_of pointers)
    ∙ sum_by-map (λ (reference : Reference). reference.key.len) reference_of
    (filter (λ (pointer : Pointer). is_tracked (standing_of pointer.mark)) pointers)
    ∙ ap (λ test. sum_by (λ (pointer : Pointer). pointer.key.len) (filter test pointers)) (λ i pointer. tracked_alike pointer.mark i)

pub counts_are : (pool : Pool) → stats_in (map reference_of pool.pointers) (map (counted_at pool) (keys_in pool)) ≡ stats_of pool
counts_are pool =
    let keys : List Key = keys_in pool in
    let many = length-counted pool keys in
    let single = count_by-map (λ (counted : KeyCount). counted.count == 1) (counted_at pool) keys in
    let double = count_by-map (λ (counted : KeyCount). nat_lt 1 counted.count) (counted_at pool) keys in
    let tracked_ones = count_by-map (λ (reference : Reference). is_tracked reference.standing) reference_of pool.pointers
    ∙ count_by-alike (λ (p : Pointer). is_tracked (standing_of p.mark)) (λ (p : Pointer). is_tracked_mark p.mark)
    (λ p. tracked_alike p.mark) pool.pointers in
    let loose_ones = count_by-map (λ (reference : Reference). is_loose reference.standing) reference_of pool.pointers
    ∙ count_by-alike (λ (p : Pointer). is_loose (standing_of p.mark)) (λ (p : Pointer). is_loose_mark p.mark)
    (λ p. loose_alike p.mark) pool.pointers in
    let plain_ones = count_by-map (λ (reference : Reference). is_plain reference.standing) reference_of pool.pointers
    ∙ count_by-alike (λ (p : Pointer). is_plain (standing_of p.mark)) (λ (p : Pointer). is_plain_mark p.mark)
    (λ p. plain_alike p.mark) pool.pointers in
    let once = sum_by-map (λ (counted : KeyCount). counted.key.len) (counted_at pool) keys in
    let all = referenced_are pool.pointers in
    λ i. record {
      keys = many i;
      unique = single i;
      duplicate = double i;
      refs = tracked_ones i;
      loose = loose_ones i;
      plain = plain_ones i;
      allocated = once i;
      referenced = all i;
      buckets = map (λ b. bucket_in-pool pool b i) (range_with_len 0 21);
    }

-- what is told of a pool from its pointers' keys and standings is what its statistics are
pub stats_in-pool : (pool : Pool)
    → stats_in (map reference_of pool.pointers) (key_counts (tracked_keys (map reference_of pool.pointers))) ≡ stats_of pool
stats_in-pool pool = ap (stats_in (map reference_of pool.pointers)) (key_counts-pool pool) ∙ counts_are pool
