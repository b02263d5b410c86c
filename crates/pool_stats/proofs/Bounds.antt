-- Few pointers with short keys have few keys, and counts whose products fit.
use Rattle.std.proofs.Common.{ℕ, ◌+◌, ◌*◌, ◌^◌, ◌≤◌, Bool, List, [], ◌∷◌, length, map, fold, filter, All, arith}
use Rattle.std.specs.List.{AllByRecursion}
use Rattle.std.proofs.Math.Nat.{mul-le-mul}
use Rattle.std.proofs.lemmas.List.Sums.{length-filter, count_by-le-length}
use Rattle.std.proofs.lemmas.List.Elements.{All-filter, All-map, All-weaker, All-from_recursion, recursion_from_All}
use Rattle.ddt_entry.specs.declared.key.Key.{Key}
use Rattle.ddt_entry.specs.Keys.{key_eq}
use Rattle.pool_model.specs.Pool.{with_key}
use Rattle.pool_stats.specs.Counts.{AreFew, tracked_keys, count_of, sorted_keys, key_counts}
use Rattle.pool_stats.specs.References.{AreSmall, is_tracked}
use Rattle.pool_stats.specs.declared.counts.KeyCount.{KeyCount}
use Rattle.pool_stats.specs.declared.reference.Reference.{Reference}
use Rattle.pool_stats.proofs.Orders.{All-with_key}
use Rattle.pool_model.proofs.Counts.{length-with_key}

-- some of few keys are few
pub AreFew-filter : (p : KeyCount → Bool) (counts : List KeyCount) → AreFew counts → AreFew (filter p counts)
AreFew-filter p counts few = record {
  few = omega (arith, few.few, length-filter p counts, count_by-le-length p counts);
  short = All-filter p (λ (counted : KeyCount). counted.key.len ≤ 4096) counts few.short;
  bytes = All-filter p (λ (counted : KeyCount). counted.key.len * counted.count ≤ 2 ^ 32) counts few.bytes;
}

length-fold : (keys more : List Key) → length (fold (λ sorted key. with_key key sorted) keys more) ≤ length keys + length more
length-fold keys [] = omega arith
length-fold keys (k ∷ ks) = omega (arith, length-fold (with_key k keys) ks, length-with_key k keys)

fold-every : (P : Key → Type 0) (keys more : List Key) → AllByRecursion P keys → AllByRecursion P more
    → AllByRecursion P (fold (λ sorted key. with_key key sorted) keys more)
fold-every P keys [] all each = all
fold-every P keys (k ∷ ks) all each = fold-every P (with_key k keys) ks (All-with_key P k keys each.0 all) each.1

-- what holds of each key holds of the sorted ones
All-sorted_keys : (P : Key → Type 0) (keys : List Key) → All P keys → All P (sorted_keys keys)
All-sorted_keys P keys each = All-from_recursion P (sorted_keys keys) (fold-every P [] keys tt (recursion_from_All P keys each))

length-images : {X Y : Type 0} (f : X → Y) (xs : List X) → length (map f xs) ≤ length xs
length-images f [] = omega arith
length-images f (x ∷ xs) = omega (arith, length-images f xs)

product_bound : (len count : ℕ) → len ≤ 4096 → count ≤ 1048576 → len * count ≤ 4294967296
product_bound len count short few = mul-le-mul short few

-- the counted keys of few pointers are few
length-tracked_keys : (references : List Reference) → AreSmall references → length (tracked_keys references) ≤ 1048576
length-tracked_keys references small =
    let tracked : List Reference = filter (λ reference. is_tracked reference.standing) references in
    omega (arith, small.few, length-filter (λ (reference : Reference). is_tracked reference.standing) references, count_by-le-length (λ (reference : Reference). is_tracked reference.standing) references, length-images (λ (reference : Reference). reference.key) tracked)

-- the counts of few pointers' keys are few
pub AreFew-key_counts : (references : List Reference) → AreSmall references → AreFew (key_counts (tracked_keys references))
AreFew-key_counts references small =
    let keys : List Key = tracked_keys references in
    let counted : Key → KeyCount = λ key. record { key = key; count = count_of keys key } in
    let tracked : Reference → Bool = λ reference. is_tracked reference.standing in
    let few : length keys ≤ 1048576 = length-tracked_keys references small in
    let each : All (λ (key : Key). key.len ≤ 4096) keys =
    All-map (λ (key : Key). key.len ≤ 4096) (λ (reference : Reference). reference.key) (filter tracked references)
    (All-filter tracked (λ (reference : Reference). reference.key.len ≤ 4096) references small.short)
    in
    let short : All (λ (key : Key). key.len ≤ 4096) (sorted_keys keys) = All-sorted_keys (λ (key : Key). key.len ≤ 4096) keys each in
    let low : All (λ (key : Key). key.len * count_of keys key ≤ 4294967296) (sorted_keys keys) =
    All-weaker (λ (key : Key). key.len ≤ 4096) (λ (key : Key). key.len * count_of keys key ≤ 4294967296)
    (λ key h. product_bound key.len (count_of keys key) h (omega (arith, few, count_by-le-length (λ (k : Key). key_eq k key) keys)))
    (sorted_keys keys) short
    in
    record {
      few = omega (arith, few, length-images counted (sorted_keys keys), length-fold [] keys);
      short = All-map (λ (counted : KeyCount). counted.key.len ≤ 4096) counted (sorted_keys keys) short;
      bytes = All-map (λ (counted : KeyCount). counted.key.len * counted.count ≤ 4294967296) counted (sorted_keys keys) low;
    }
