use Rattle.std.specs.List.{AllWithin}
use Rattle.std.proofs.Common.{◌≤◌, ◌<◌, length}
use Rattle.image_tests.proofs.in_range.each_within.Given as goal

abbrev pub invariant-each : goal.invariant-each
invariant-each l = AllWithin (λ stored. 32 ≤ stored.place) l.blocks 0 l.stored-index
    × AllWithin (λ stored. stored.place < l.sectors) l.blocks 0 l.stored-index
    × AllWithin (λ stored. length stored.block.items ≤ 4096) l.blocks 0 l.stored-index
