use Rattle.std.specs.Prelude.{codes, [], ◌∷◌}
use Rattle.pool_model.specs.Text.{line, quota_word, sums_text, buckets_text}
use Rattle.report.proofs.Written.{Wrote-failed, Wrote-longer, Wrote-then}
use Rattle.report.proofs.stat.write_stat.Goals as goal

pub returns-in_err-write_number : goal.returns-in_err-write_number
returns-in_err-write_number g c =
    let failed = c.from_residual.ensures.0 in
    let stats = c.args.stats.now in
    Wrote-longer (buckets_text stats.buckets) failed
    (Wrote-longer (sums_text stats) failed
    (Wrote-longer (line (codes "quota" ∷ quota_word c.args.quota ∷ [])) failed
    (Wrote-failed failed c.in_err-write_number.ensures)))

pub returns-in_err-write_quota : goal.returns-in_err-write_quota
returns-in_err-write_quota g c =
    let failed = c.from_residual-in_err-write_quota.ensures.0 in
    let stats = c.args.stats.now in
    Wrote-longer (buckets_text stats.buckets) failed
    (Wrote-longer (sums_text stats) failed
    (Wrote-failed failed (Wrote-then c.in_ok-write_number.ensures c.in_err-write_quota.ensures)))

pub returns-in_err-write_sums : goal.returns-in_err-write_sums
returns-in_err-write_sums g c =
    let failed = c.from_residual-in_err-write_sums.ensures.0 in
    Wrote-longer (buckets_text c.args.stats.now.buckets) failed
    (Wrote-failed failed (Wrote-then (Wrote-then c.in_ok-write_number.ensures c.in_ok-write_quota.ensures) c.in_err-write_sums.ensures))

pub returns : goal.returns
returns g c =
    Wrote-then (Wrote-then (Wrote-then c.in_ok-write_number.ensures c.in_ok-write_quota.ensures) c.in_ok-write_sums.ensures)
    c.write_buckets.ensures
