-- The statistics of the counted homes as sums over them, each modulo 2^64, and what the change of one home makes of them.
use Rattle.std.specs.Prelude.{◌≡◌, ℕ, ◌+◌, ◌-◌, ◌*◌, ◌^◌, ◌%◌, true, nat_lt, List, length, map, sum_by, count_by, Option, Some, None, if◌then◌else◌}
use Rattle.std.specs.List.{AllByRecursion, range_with_len}
use Rattle.std.specs.Prelude.{slice_index_or}
use Rattle.ddt_entry.specs.declared.entry.Home.{Home}
use Rattle.ddt_entry.specs.declared.entry.Entry.{Entry}
use Rattle.pool_model.specs.declared.stats.Bucket.{Bucket}
use Rattle.pool_model.specs.declared.stats.Stats.{Stats}
use Rattle.pool_model.specs.Pool.{Pool, is_plain, count_at, keys_in}
use Rattle.pool_model.specs.Stats.{is_in_bucket}
use Rattle.pool_stats.specs.References.{reference_of, AreSmall}
use Rattle.pool_stats.specs.declared.counts.KeyCount.{KeyCount}
use Rattle.pool_stats.specs.declared.running.KeySum.{KeySum}
use Rattle.pool_stats.specs.declared.running.RunningTotals.{RunningTotals}

-- ---- The sums

abbrev pub wrapped : ℕ → ℕ
wrapped sum = sum % 2 ^ 64

-- a key is one where it is counted at all
abbrev pub one_of : (count : ℕ) → ℕ
one_of count = if nat_lt 0 count then 1 else 0

-- a count of bucket b, and 0 in place of any other
abbrev pub in_bucket : (b count : ℕ) → ℕ
in_bucket b count = if is_in_bucket b count then count else 0

-- the keys of these homes, with their counts as they are seen
abbrev pub key_sum : (seen : ℕ → ℕ) → List Entry → KeySum
key_sum seen homes = record {
  keys = wrapped (sum_by (λ entry. one_of (seen entry.home.count)) homes);
  allocated = wrapped (sum_by (λ entry. one_of (seen entry.home.count) * entry.key.len) homes);
  referenced = wrapped (sum_by (λ entry. seen entry.home.count * entry.key.len) homes);
}

abbrev pub totals_in : (homes : List Entry) → RunningTotals
totals_in homes = record {
  all = key_sum (λ count. count) homes;
  refs = wrapped (sum_by (λ entry. entry.home.count) homes);
  buckets = map (λ b. key_sum (in_bucket b) homes) (range_with_len 0 21);
}

-- ---- The change of one home

-- a sum without one share and with another
abbrev pub moved : (sum gone come : ℕ) → ℕ
moved sum gone come = (sum + (2 ^ 64 - gone) + come) % 2 ^ 64

-- what is made of a sum where the count of a key of this length changes
abbrev pub sum_moved : (len before now : ℕ) → KeySum → KeySum
sum_moved len before now sum = record {
  keys = moved sum.keys (one_of before) (one_of now);
  allocated = moved sum.allocated (wrapped (one_of before * len)) (wrapped (one_of now * len));
  referenced = moved sum.referenced (wrapped (before * len)) (wrapped (now * len));
}

abbrev pub no_sum : KeySum
no_sum = record { keys = 0; allocated = 0; referenced = 0 }

abbrev pub bucket_at : List KeySum → (b : ℕ) → KeySum
bucket_at buckets b = slice_index_or buckets b no_sum

abbrev pub totals_moved : (len before now : ℕ) → RunningTotals → RunningTotals
totals_moved len before now totals = record {
  all = sum_moved len before now totals.all;
  refs = moved totals.refs (wrapped before) (wrapped now);
  buckets = map (λ b. sum_moved len (in_bucket b before) (in_bucket b now) (bucket_at totals.buckets b)) (range_with_len 0 21);
}

-- how many pointers are counted at a home, where there is one
abbrev pub count_in : Option Home → ℕ
count_in None = 0
count_in (Some home) = home.count

-- ---- What `stat` prints

abbrev pub bucket_told : (b : ℕ) → KeySum → Bucket
bucket_told b sum = record { low = 2 ^ b; keys = sum.keys; allocated = sum.allocated; referenced = sum.referenced }

-- how many keys have one pointer
abbrev pub unique_in : RunningTotals → ℕ
unique_in totals = (bucket_at totals.buckets 0).keys

-- of so many slots that hold a pointer, of which so many are outside the table
abbrev pub stats_by : RunningTotals → (slots plain : ℕ) → Stats
stats_by totals slots plain = record {
  keys = totals.all.keys;
  unique = unique_in totals;
  duplicate = moved totals.all.keys (unique_in totals) 0;
  refs = totals.refs;
  loose = moved (moved slots plain 0) totals.refs 0;
  plain = plain;
  allocated = totals.all.allocated;
  referenced = totals.all.referenced;
  buckets = map (λ b. bucket_told b (bucket_at totals.buckets b)) (range_with_len 0 21);
}

abbrev pub key_count : Entry → KeyCount
key_count entry = record { key = entry.key; count = entry.home.count }

-- these homes, all of them counted, are those that a pool counts, which has so many pointers, so many of them outside the table
pub record AreHomesOf (pool : Pool) (homes : List Entry) (slots plain : ℕ) : Type 0 where
  pub counted : AllByRecursion (λ entry. nat_lt 0 entry.home.count ≡ true) homes
  pub counts : map key_count homes ≡ map (λ key. record { key = key; count = count_at pool key }) (keys_in pool)
  pub pointers : slots ≡ length pool.pointers
  pub outside : plain ≡ count_by (λ pointer. is_plain pointer.mark) pool.pointers
  pub small : AreSmall (map reference_of pool.pointers)
