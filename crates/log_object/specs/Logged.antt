-- What a contract sees of a log, and what its calls make of it.
use Rattle.std.specs.Prelude.{List, [], ◌∷◌, ◌++◌, Option}
use Rattle.ddt_entry.specs.declared.key.Key.{Key}
use Rattle.ddt_entry.specs.declared.entry.Change.{Change}

-- the changes in the order in which they were appended, and how far they were flushed
pub record Logged : Type 0 where
  pub changes : List Change
  pub checkpoint : Option Key

-- with one change more at the end
abbrev pub with_change : Change → Logged → Logged
with_change change log = record { changes = log.changes ++ change ∷ []; checkpoint = log.checkpoint }

abbrev pub with_checkpoint : Option Key → Logged → Logged
with_checkpoint key log = record { changes = log.changes; checkpoint = key }

-- without its changes
abbrev pub cleared : Logged → Logged
cleared log = record { changes = []; checkpoint = log.checkpoint }
