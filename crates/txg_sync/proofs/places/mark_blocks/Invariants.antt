use Rattle.std.proofs.Common.{◌≡◌, drop, map}
use Rattle.grant_book.specs.Sectors.{marked}
use Rattle.pool_model.specs.Mirrors.{stored_of}
use Rattle.table_state.specs.Closing.{block_places}
use Rattle.txg_sync.proofs.places.mark_blocks.Given as goal

abbrev pub invariant-contents : goal.invariant-contents
invariant-contents l = marked l.used (block_places (map stored_of (drop l.stored-index l.contents))) ≡ marked l.initial.used
    (block_places (map stored_of l.contents))
