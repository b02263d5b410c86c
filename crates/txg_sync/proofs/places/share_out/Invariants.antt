use Rattle.std.proofs.Common.{◌≡◌, ◌+◌, ◌++◌, length, map, drop}
use Rattle.std.specs.Vec.Iter.{into_iter_items}
use Rattle.table_state.specs.Closing.{pages_of}
use Rattle.txg_sync.specs.Placing.{parts_of}
use Rattle.txg_sync.proofs.places.share_out.Given as goal

-- the chains that have places, and then those of the lists that are left, are the chains of all lists
abbrev pub invariant-lists : goal.invariant-lists
invariant-lists l =
    (goal.iterator-lists).can_next l.records-iterator
    × (goal.iterator-lists).is_finite l.records-iterator
    × (l.parts.items ++ parts_of (map (λ records. records.items) (into_iter_items l.records-iterator)) (drop l.from l.places) ≡ parts_of
    (map (λ records. records.items) l.fn.lists.items) l.places)
    × (l.from + pages_of (map (λ records. records.items) (into_iter_items l.records-iterator)) ≡ length l.places)
