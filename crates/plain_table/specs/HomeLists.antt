-- A map from keys to homes, as the list of its entries.
use Rattle.std.specs.Prelude.{List, map}
use Rattle.ddt_entry.specs.declared.key.Key.{Key}
use Rattle.ddt_entry.specs.declared.entry.Home.{Home}
use Rattle.ddt_entry.specs.declared.entry.Entry.{Entry}

-- a key with its home, as an entry
abbrev pub entry_of : Key × Home → Entry
entry_of pair = record { key = pair.0; home = pair.1 }

abbrev pub entries_of : List (Key × Home) → List Entry
entries_of pairs = map entry_of pairs
