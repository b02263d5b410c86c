-- How many pointers a change leaves its key, and a home that no change names.
use Rattle.std.specs.Prelude.{◌≡◌, ⊤, ℕ, Bool, ◌≤◌, List, None}
use Rattle.std.specs.Ordering.{is_lt}
use Rattle.ddt_entry.specs.Changes.{key_in}
use Rattle.ddt_entry.specs.Keys.{key_cmp}
use Rattle.ddt_entry.specs.declared.entry.Change.{Change}
use Rattle.ddt_entry.specs.declared.entry.Change.TheVariants as changes
use Rattle.ddt_entry.specs.declared.entry.Entry.{Entry}
use Rattle.pool_model.specs.Table.{change_at}

-- its home counts at most so many, or it has none
abbrev pub LeavesAtMost : (most : ℕ) → Change → Type 0
LeavesAtMost most (changes.Entry entry) = entry.home.count ≤ most
LeavesAtMost most (changes.Gone key) = ⊤

-- a home that no change names counts at most so many
abbrev pub StaysAtMost : (most : ℕ) → (log : List Change) → Entry → Type 0
StaysAtMost most log entry = change_at entry.key log ≡ None → entry.home.count ≤ most

-- a change's key comes before another's
abbrev pub has_lower : Change → Change → Bool
has_lower a b = is_lt (key_cmp (key_in a) (key_in b))
