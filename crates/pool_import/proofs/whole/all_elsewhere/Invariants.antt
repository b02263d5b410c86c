use Rattle.std.proofs.Common.{◌≡◌, drop}
use Rattle.std.specs.List.{list_all}
use Rattle.pool_import.specs.Together.{is_elsewhere}
use Rattle.pool_import.proofs.whole.all_elsewhere.Given as goal

abbrev pub invariant-entries : goal.invariant-entries
invariant-entries l =
    list_all (is_elsewhere l.duplicate) (drop l.entry-index l.unique) ≡ list_all (is_elsewhere l.duplicate) l.unique
