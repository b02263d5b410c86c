use Rattle.std.proofs.Common.{◌≡◌, None, drop}
use Rattle.pool_import.specs.Together.{rises, has_lower_key}
use Rattle.pool_import.proofs.whole.keys_rise.Given as goal

abbrev pub invariant-entries : goal.invariant-entries
invariant-entries l = rises has_lower_key l.last (drop l.entry-index l.entries) ≡ rises has_lower_key None l.entries
