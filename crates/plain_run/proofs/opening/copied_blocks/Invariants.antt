use Rattle.std.proofs.Common.{◌≡◌, take}
use Rattle.plain_run.proofs.opening.copied_blocks.Given as goal

abbrev pub invariant-loop-block : goal.invariant-loop-block
invariant-loop-block l = l.copies.items ≡ take l.block-index l.blocks
