use Rattle.std.proofs.Common.{◌≡◌, take}
use Rattle.table_state.specs.Sealed.{places_in}
use Rattle.txg_sync.proofs.planning.pages_of.Given as goal

abbrev pub invariant-parts : goal.invariant-parts
invariant-parts l = l.pages.items ≡ places_in (take l.part-index l.parts)
