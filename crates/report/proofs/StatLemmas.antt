-- The lines of the buckets that are left.
use Rattle.std.proofs.Common.{◌≡◌, ◌≢◌, ◌+◌, ◌<◌, ℕ, List, [], ◌∷◌, ◌++◌, length, drop, slice_index_or, ap, ◌∙◌, append_assoc, append-nil, arith}
use Rattle.std.proofs.lemmas.List.{drop_more}
use Rattle.std.proofs.lemmas.Bool.Decides.{nat_tests}
use Rattle.std.specs.Prelude.{codes}
use Rattle.pool_model.specs.declared.stats.Bucket.{Bucket}
use Rattle.pool_model.specs.declared.stats.Stats.{Stats}
use Rattle.pool_model.specs.Text.{bucket_line, buckets_text, number_line, sums_text}
use Rattle.report.proofs.Written.{Splits}

-- a bucket that has a key comes first
used_first : (bucket : Bucket) (rest : List Bucket) → bucket.keys ≢ 0
    → buckets_text (bucket ∷ rest) ≡ bucket_line bucket ++ buckets_text rest
used_first bucket rest used = grind (arith, nat_tests)

-- a bucket without keys comes first
unused_first : (bucket : Bucket) (rest : List Bucket) → bucket.keys ≡ 0 → buckets_text (bucket ∷ rest) ≡ buckets_text rest
unused_first bucket rest unused = grind (arith, nat_tests)

pub buckets_text-used : (buckets : List Bucket) (i : ℕ) (default : Bucket) → i < length buckets
    → (slice_index_or buckets i default).keys ≢ 0
    → Splits (buckets_text (drop i buckets)) (bucket_line (slice_index_or buckets i default)) (buckets_text (drop (i + 1) buckets))
buckets_text-used buckets i default within used =
    record { parts = ap buckets_text (drop_more buckets i default within) ∙ used_first (slice_index_or buckets i default) (drop (i + 1) buckets) used }

pub buckets_text-unused : (buckets : List Bucket) (i : ℕ) (default : Bucket) → i < length buckets
    → (slice_index_or buckets i default).keys ≡ 0
    → buckets_text (drop i buckets) ≡ buckets_text (drop (i + 1) buckets)
buckets_text-unused buckets i default within unused =
    ap buckets_text (drop_more buckets i default within) ∙ unused_first (slice_index_or buckets i default) (drop (i + 1) buckets) unused

-- eight rows, one after another
eight_rows : (a b c d e f g h : List ℕ) → a ++ (b ++ (c ++ (d ++ (e ++ (f ++ (g ++ (h ++ []))))))) ≡ a ++ b ++ c ++ d ++ e ++ f ++ g ++ h
eight_rows a b c d e f g h = simp (append_assoc, append-nil)

-- the sums, row by row
pub sums_text-rows : (stats : Stats)
    → number_line (codes "keys")
    stats.keys ++ (number_line (codes "unique") stats.unique ++ (number_line (codes "duplicate") stats.duplicate
    ++ (number_line (codes "refs") stats.refs ++ (number_line (codes "loose") stats.loose ++ (number_line (codes "plain") stats.plain
    ++ (number_line (codes "allocated") stats.allocated ++ (number_line (codes "referenced") stats.referenced ++ []))))))) ≡ sums_text stats
sums_text-rows stats =
    eight_rows (number_line (codes "keys") stats.keys) (number_line (codes "unique") stats.unique)
    (number_line (codes "duplicate") stats.duplicate)
    (number_line (codes "refs") stats.refs) (number_line (codes "loose") stats.loose) (number_line (codes "plain") stats.plain)
    (number_line (codes "allocated") stats.allocated) (number_line (codes "referenced") stats.referenced)
