-- What `stat` prints of a pool: each number is a filter's length or a sum over the pointers.
use Rattle.std.specs.Prelude.{ℕ, ◌+◌, ◌*◌, ◌^◌, Bool, ◌&&◌, ◌==◌, nat_lt, nat_le, List, length, filter, map, sum_by, count_by}
use Rattle.std.specs.List.{range_with_len}
use Rattle.ddt_entry.specs.declared.key.Key.{Key}
use Rattle.pool_model.specs.declared.stats.Bucket.{Bucket}
use Rattle.pool_model.specs.declared.stats.Stats.{Stats}
use Rattle.pool_model.specs.Pool.{Pool, is_tracked, is_loose, is_plain, count_at, keys_in}

-- a count of bucket b lies from 2^b to 2^(b + 1) - 1
abbrev pub is_in_bucket : (b count : ℕ) → Bool
is_in_bucket b count = nat_le (2 ^ b) count && nat_lt count (2 ^ (b + 1))

-- the keys whose counts are of bucket b, with their bytes once and once for each pointer
abbrev pub bucket_of : Pool → (b : ℕ) → Bucket
bucket_of pool b =
    let keys : List Key = filter (λ key. is_in_bucket b (count_at pool key)) (keys_in pool) in
    record {
      low = 2 ^ b;
      keys = length keys;
      allocated = sum_by (λ key. key.len) keys;
      referenced = sum_by (λ key. key.len * count_at pool key) keys;
    }

abbrev pub stats_of : Pool → Stats
stats_of pool =
    let keys : List Key = keys_in pool in
    record {
      keys = length keys;
      unique = count_by (λ key. count_at pool key == 1) keys;
      duplicate = count_by (λ key. nat_lt 1 (count_at pool key)) keys;
      refs = count_by (λ pointer. is_tracked pointer.mark) pool.pointers;
      loose = count_by (λ pointer. is_loose pointer.mark) pool.pointers;
      plain = count_by (λ pointer. is_plain pointer.mark) pool.pointers;
      allocated = sum_by (λ key. key.len) keys;
      referenced = sum_by (λ pointer. pointer.key.len) (filter (λ pointer. is_tracked pointer.mark) pool.pointers);
      buckets = map (bucket_of pool) (range_with_len 0 21);
    }
