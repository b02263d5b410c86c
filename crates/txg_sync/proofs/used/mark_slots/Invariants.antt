use Rattle.std.proofs.Common.{◌≡◌, drop, map}
use Rattle.grant_book.specs.Sectors.{marked}
use Rattle.txg_sync.proofs.used.mark_slots.Given as goal

abbrev pub invariant-slots : goal.invariant-slots
invariant-slots l = marked l.used (map (λ slot. slot.pointer.place) (drop l.slot-index l.slots)) ≡ marked l.initial.used
    (map (λ slot. slot.pointer.place) l.slots)
