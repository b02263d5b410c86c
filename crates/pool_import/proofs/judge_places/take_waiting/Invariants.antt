use Rattle.std.proofs.Common.{◌≡◌, ◌==◌, drop, filter}
use Rattle.ddt_entry.specs.declared.entry.Entry.{Entry}
use Rattle.pool_import.specs.Marks.{taken, places_in}
use Rattle.pool_import.proofs.judge_places.take_waiting.Given as goal

abbrev pub invariant-homes : goal.invariant-homes
invariant-homes l =
    taken l.used (places_in (filter (λ (entry : Entry). entry.home.count == 0) (drop l.entry-index l.homes)))
    ≡ taken l.initial.used (places_in (filter (λ (entry : Entry). entry.home.count == 0) l.homes))
