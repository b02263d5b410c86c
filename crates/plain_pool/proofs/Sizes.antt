-- A small pool's pointers are few, with short keys, as the statistics see them.
use Rattle.std.proofs.Common.{◌≡◌, ◌≤◌, List, [], ◌∷◌, length, map, refl, arith}
use Rattle.std.proofs.lemmas.List.Elements.{All-map}
use Rattle.pool_model.specs.Pool.{Pool, Pointer}
use Rattle.pool_stats.specs.References.{AreSmall, reference_of}
use Rattle.pool_stats.specs.declared.reference.Reference.{Reference}
use Rattle.plain_pool.specs.Small.{IsSmall}

length-seen : (pointers : List Pointer) → length (map reference_of pointers) ≡ length pointers
length-seen [] = refl
length-seen (p ∷ ps) = omega (arith, length-seen ps)

pub AreSmall-pointers : (pool : Pool) → IsSmall pool → AreSmall (map reference_of pool.pointers)
AreSmall-pointers pool small = record {
  few = omega (arith, small.few, length-seen pool.pointers);
  short = All-map (λ (reference : Reference). reference.key.len ≤ 4096) reference_of pool.pointers small.short;
}
