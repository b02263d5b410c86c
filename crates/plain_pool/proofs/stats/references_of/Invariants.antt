use Rattle.std.proofs.Common.{◌≡◌, map, take}
use Rattle.pool_stats.specs.References.{reference_of}
use Rattle.plain_pool.proofs.stats.references_of.Given as goal

abbrev pub invariant-pointers : goal.invariant-pointers
invariant-pointers l = l.references.items ≡ map reference_of (take l.pointer-index l.pointers)
