-- What was read so far, and then the rest, is what is read from all of the text.
use Rattle.std.proofs.Common.{◌≡◌, ◌+◌, ◌≤◌, length, Ok}
use Rattle.std.specs.Prelude.{fold}
use Rattle.std.specs.List.{slice_split}
use Rattle.pool_model.specs.File.{is_line_feed, first_progress, after_line, lines_of}
use Rattle.cmd_file.specs.Progress.{progress_of}
use Rattle.cmd_file.proofs.grammar.read_lines.Given as goal

abbrev pub invariant-lines : goal.invariant-lines
invariant-lines l = (fold after_line (Ok (progress_of l.progress)) (lines_of (slice_split is_line_feed l.rest))
    ≡ fold after_line (Ok first_progress) (lines_of (slice_split is_line_feed l.text)))
    × (l.progress.done.lines + length l.rest ≤ length l.text)

abbrev pub decreases-lines : goal.decreases-lines
decreases-lines l = length l.rest
