use Rattle.std.proofs.Common.{◌≡◌, Ok, Err, rules}
use Rattle.std.specs.Prelude.{fold}
use Rattle.std.specs.List.{slice_split}
use Rattle.std.proofs.lemmas.Result.{err_from_is_err_and}
use Rattle.pool_model.specs.File.{is_line_feed, first_progress, after_line, lines_of}
use Rattle.cmd_file.specs.Progress.{progress_of}
use Rattle.cmd_file.proofs.Folds.{line_is_refused}
use Rattle.cmd_file.proofs.grammar.read_lines.Goals as goal

pub returns-in_err-progress : goal.returns-in_err-progress
returns-in_err-progress c =
    let failed = err_from_is_err_and c.from_residual.result c.from_residual.ensures.1 in
    let same : c.from_residual.result ≡ Err c.in_err-progress.field-0.0 = cc in
    line_is_refused (progress_of c.lines.progress) c.in_err-progress.field-0.0 c.from_residual.result c.split_line.result.0.now
    (lines_of (slice_split is_line_feed c.split_line.result.1.now)) (lines_of (slice_split is_line_feed c.lines.rest.now))
    (fold after_line (Ok first_progress) (lines_of (slice_split is_line_feed c.args.text.now)))
    (search rules) (search rules) (search rules) same
