use Rattle.std.proofs.Common.{◌≡◌, take, map}
use Rattle.plain_run.specs.Placed.{placed_of}
use Rattle.plain_run.proofs.standing.placed_blocks.Given as goal

abbrev pub invariant-loop-pointer : goal.invariant-loop-pointer
invariant-loop-pointer l = l.blocks.items ≡ map placed_of (take l.pointer-index l.pointers)
