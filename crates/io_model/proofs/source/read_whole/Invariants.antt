-- What was read so far stands in `bytes`, and is no more than may be read.
use Rattle.std.proofs.Common.{◌-◌, ◌≤◌, length}
use Rattle.std.specs.Io.KnownBytes.{Consumes}
use Rattle.io_model.proofs.source.read_whole.Given as goal

abbrev pub invariant-pieces : goal.invariant-pieces
invariant-pieces g l = record {
  enough : length l.bytes.items ≤ l.most;
  read : Consumes (g.S.Source.left l.initial.input) (g.S.Source.left l.input) l.bytes.items;
  count : g.S.Source.faults l.initial.input ≤ g.S.Source.faults l.input;
}

abbrev pub decreases-pieces : goal.decreases-pieces
decreases-pieces g l = l.most - length l.bytes.items
