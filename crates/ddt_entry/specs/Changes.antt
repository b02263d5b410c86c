-- What changes are of.
use Rattle.ddt_entry.specs.declared.key.Key.{Key}
use Rattle.ddt_entry.specs.declared.entry.Change.{Change}
use Rattle.ddt_entry.specs.declared.entry.Change.TheVariants.{Entry, Gone}

-- the key that a change is of
abbrev pub key_in : Change → Key
key_in (Entry entry) = entry.key
key_in (Gone key) = key
