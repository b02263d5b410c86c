-- Which records spell nothing of what a list of them should.
use Rattle.std.specs.Prelude.{ℕ, Bool, true, false, List, Result, Ok, Err, is_none, is_err}
use Rattle.ddt_entry.specs.Records.{change_in}
use Rattle.ddt_entry.specs.declared.entry.Change.{Change}
use Rattle.ddt_entry.specs.declared.entry.Change.TheVariants as changes
use Rattle.ddt_entry.specs.declared.record.Malformed.{Malformed}
use Rattle.table_state.specs.SlotRecords.{slot_in}

-- the record spells no slot of such a pool
abbrev pub spells_no_slot : (sectors group : ℕ) → List ℕ → Bool
spells_no_slot sectors group spelled = is_none (slot_in sectors group spelled)

-- the record spells no change
abbrev pub spells_no_change : List ℕ → Bool
spells_no_change spelled = is_err (change_in spelled)

-- what was read is no entry
abbrev pub is_no_entry : Result Change Malformed → Bool
is_no_entry (Ok (changes.Entry entry)) = false
is_no_entry (Ok (changes.Gone key)) = true
is_no_entry (Err fault) = true

-- the record spells no entry
abbrev pub spells_no_entry : List ℕ → Bool
spells_no_entry spelled = is_no_entry (change_in spelled)
