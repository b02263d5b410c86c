-- A front of the text was taken, and `rest` is what is left of it.
use Rattle.std.proofs.Common.{◌≡◌, ℕ, ◌≤◌, List, ◌++◌, length}
use Rattle.std.specs.Io.KnownBytes.{Appends}
use Rattle.io_model.proofs.sink.write_whole.Given as goal

abbrev pub invariant-parts : goal.invariant-parts
invariant-parts g l =
    (done : List ℕ) × (l.initial.rest ≡ done ++ l.rest) × Appends (g.W.Sink.written l.initial.out) (g.W.Sink.written l.out) done
    × (g.W.Sink.faults l.initial.out ≤ g.W.Sink.faults l.out)

abbrev pub decreases-parts : goal.decreases-parts
decreases-parts g l = length l.rest
