-- What is placed was free in the set, in which the blocks are marked.
use Rattle.std.proofs.Common.{map}
use Rattle.pool_model.specs.Mirrors.{stored_of}
use Rattle.txg_sync.proofs.PlacedParts.{placed_by_steps}
use Rattle.txg_sync.proofs.places.place_chains.Goals as goal

pub returns-clause-placed : goal.returns-clause-placed
returns-clause-placed c =
    placed_by_steps c.args.used c.mark_blocks.new.used
    (map stored_of c.args.contents.now) c.requires.ring c.args.lists.items c.as_slice.result.now c.in-Some.pages c.in_ok-places.field-0
    c.in-Some-2.places c.as_slice-2.result.now c.in_ok-parts.parts.items
    c.mark_blocks.ensures c.as_slice.ensures.value c.in-Some.ensures.counted.0 c.in_ok-places.ensures c.in-Some-2.is
    c.as_slice-2.ensures c.in_ok-parts.ensures
