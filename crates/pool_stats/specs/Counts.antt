-- Keys with their counts, and the statistics as sums over them.
use Rattle.std.specs.Prelude.{ℕ, ◌+◌, ◌*◌, ◌^◌, ◌≤◌, ◌==◌, nat_lt, List, [], ◌∷◌, length, map, fold, filter, sum_by, count_by, All, if◌then◌else◌}
use Rattle.std.specs.List.{range_with_len}
use Rattle.ddt_entry.specs.declared.key.Key.{Key}
use Rattle.ddt_entry.specs.Keys.{key_eq}
use Rattle.pool_model.specs.declared.stats.Bucket.{Bucket}
use Rattle.pool_model.specs.declared.stats.Stats.{Stats}
use Rattle.pool_model.specs.Pool.{with_key}
use Rattle.pool_model.specs.Stats.{is_in_bucket}
use Rattle.pool_stats.specs.References.{is_tracked, is_loose, is_plain}
use Rattle.pool_stats.specs.declared.counts.KeyCount.{KeyCount}
use Rattle.pool_stats.specs.declared.reference.Reference.{Reference}

-- the keys of the pointers that the table counts
abbrev pub tracked_keys : List Reference → List Key
tracked_keys references = map (λ reference. reference.key) (filter (λ reference. is_tracked reference.standing) references)

-- how often a key stands among keys
abbrev pub count_of : List Key → Key → ℕ
count_of keys key = count_by (λ k. key_eq k key) keys

-- the keys, sorted, each once
abbrev pub sorted_keys : List Key → List Key
sorted_keys keys = fold (λ sorted key. with_key key sorted) [] keys

-- each key with its count, sorted
abbrev pub key_counts : List Key → List KeyCount
key_counts keys = map (λ key. record { key = key; count = count_of keys key }) (sorted_keys keys)

-- the runs of equal keys, where so many of the first key have been seen
abbrev pub runs_from : Key → (count : ℕ) → List Key → List KeyCount
runs_from key count [] = record { key = key; count = count } ∷ []
runs_from key count (k ∷ ks) = if key_eq k key then runs_from key (count + 1) ks else record { key = key; count = count } ∷ runs_from k 1 ks

-- the runs of equal keys, each with its length
abbrev pub runs_of : List Key → List KeyCount
runs_of [] = []
runs_of (k ∷ ks) = runs_from k 1 ks

-- few enough keys, with few enough bytes each and for all its pointers, for each sum to fit 64 bits
pub record AreFew (counts : List KeyCount) : Type 0 where
  pub few : length counts ≤ 2 ^ 20
  pub short : All (λ counted. counted.key.len ≤ 4096) counts
  pub bytes : All (λ counted. counted.key.len * counted.count ≤ 2 ^ 32) counts

-- the keys whose counts are of bucket b, with their bytes once and once for each pointer
abbrev pub bucket_in : List KeyCount → (b : ℕ) → Bucket
bucket_in counts b =
    let members : List KeyCount = filter (λ counted. is_in_bucket b counted.count) counts in
    record {
      low = 2 ^ b;
      keys = length members;
      allocated = sum_by (λ counted. counted.key.len) members;
      referenced = sum_by (λ counted. counted.key.len * counted.count) members;
    }

-- the statistics, from the pointers and from the counts of their keys
abbrev pub stats_in : List Reference → List KeyCount → Stats
stats_in references counts = record {
  keys = length counts;
  unique = count_by (λ counted. counted.count == 1) counts;
  duplicate = count_by (λ counted. nat_lt 1 counted.count) counts;
  refs = count_by (λ reference. is_tracked reference.standing) references;
  loose = count_by (λ reference. is_loose reference.standing) references;
  plain = count_by (λ reference. is_plain reference.standing) references;
  allocated = sum_by (λ counted. counted.key.len) counts;
  referenced = sum_by (λ reference. reference.key.len) (filter (λ reference. is_tracked reference.standing) references);
  buckets = map (bucket_in counts) (range_with_len 0 21);
}
