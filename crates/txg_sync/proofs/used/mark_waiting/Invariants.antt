use Rattle.std.proofs.Common.{◌≡◌, ◌==◌, drop, filter, map}
use Rattle.grant_book.specs.Sectors.{marked}
use Rattle.txg_sync.proofs.used.mark_waiting.Given as goal

abbrev pub invariant-entries : goal.invariant-entries
invariant-entries l =
    marked l.used (map (λ entry. entry.home.place) (filter (λ entry. entry.home.count == 0) (drop l.entry-index l.entries)))
    ≡ marked l.initial.used (map (λ entry. entry.home.place) (filter (λ entry. entry.home.count == 0) l.entries))
