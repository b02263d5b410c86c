use Rattle.std.proofs.Common.{◌≡◌, ◌≤◌, map, take}
use Rattle.table_state.specs.Closing.{pages_of}
use Rattle.txg_sync.proofs.places.pages_within.Given as goal

abbrev pub invariant-lists : goal.invariant-lists
invariant-lists l = (l.pages ≡ pages_of (map (λ records. records.items) (take l.records-index l.lists))) × (l.pages ≤ l.free)
