use Rattle.std.proofs.Common.{◌≡◌, take}
use Rattle.plain_pool.proofs.pool.PlainPool.copied.Given as goal

abbrev pub invariant-loop-pointer : goal.invariant-loop-pointer
invariant-loop-pointer l = l.pointers.items ≡ take l.pointer-index l.self-inside.pointers.items
