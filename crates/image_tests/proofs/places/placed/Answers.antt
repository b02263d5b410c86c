-- The ring is used in the pool of the tests.
use Rattle.std.proofs.Common.{◌≡◌, Bool, List, true, sym, subst}
use Rattle.std.specs.Prelude.{slice_index_or}
use Rattle.grant_book.proofs.MarkLaws.{ring_is_used}
use Rattle.image_tests.proofs.places.placed.Goals as goal

pub place_chains-requires : goal.place_chains-requires
place_chains-requires c = record {
  ring = λ sector first. subst (λ (used : List Bool). slice_index_or used sector true ≡ true) (sym c.in_ok-used.ensures)
      (ring_is_used c.args.sectors sector first);
}
