-- The blocks in their plain form.
use Rattle.std.proofs.Common.{◌≤◌, ◌<◌, List, [], ◌∷◌, length, map}
use Rattle.std.specs.List.{AllByRecursion}
use Rattle.pool_model.specs.Mirrors.{stored_of}
use Rattle.pool_model.proofs.Loops.{all_mapped}
use Rattle.image_tests.proofs.in_range.blocks_within.Goals as goal

pub returns-clause-behind : goal.returns-clause-behind
returns-clause-behind c = λ test. all_mapped (λ stored. 32 ≤ stored.place) stored_of c.args.blocks.now (c.each_within.ensures.behind test)

pub returns-clause-on_disk : goal.returns-clause-on_disk
returns-clause-on_disk c = λ test. all_mapped (λ stored. stored.place < c.args.sectors) stored_of c.args.blocks.now
    (c.each_within.ensures.on_disk test)

pub returns-clause-lengths : goal.returns-clause-lengths
returns-clause-lengths c = λ test. all_mapped (λ stored. length stored.bytes ≤ 4096) stored_of c.args.blocks.now
    (c.each_within.ensures.lengths test)
