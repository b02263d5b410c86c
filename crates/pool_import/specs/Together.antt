-- Tests of the rules that the parts of an image keep together.
use Rattle.std.specs.Prelude.{ℕ, ◌^◌, Bool, true, ◌&&◌, ◌==◌, nat_le, nat_lt, List, [], ◌∷◌, length, is_none, Option, Some, None}
use Rattle.std.specs.List.{list_all}
use Rattle.std.specs.Ordering.{is_lt}
use Rattle.ddt_entry.specs.Keys.{key_cmp}
use Rattle.ddt_entry.specs.declared.entry.Entry.{Entry}
use Rattle.ddt_entry.specs.declared.entry.Change.{Change}
use Rattle.ddt_entry.specs.declared.entry.Change.TheVariants as changes
use Rattle.uber_ring.specs.declared.seal.Seal.{Seal}
use Rattle.pool_model.specs.Table.{entry_at}
use Rattle.slot_table.specs.Slots.{stands_before}
use Rattle.table_state.specs.Flat.{Flat}

-- whether the numbers of an entry are in their ranges
abbrev pub is_within : (sectors group : ℕ) → Entry → Bool
is_within sectors group entry =
    nat_le 32 entry.home.place
    && nat_lt entry.home.place sectors
    && nat_le 1 entry.home.birth
    && nat_le entry.home.birth group
    && nat_lt entry.home.since (2 ^ 40)
    && nat_le entry.home.count 1048576

abbrev pub is_change_within : (sectors group : ℕ) → Change → Bool
is_change_within sectors group (changes.Entry entry) = is_within sectors group entry
is_change_within sectors group (changes.Gone key) = true

-- whether an item stands before another: nothing else stands before the first
abbrev pub follows : {X : Type 0} → (X → X → Bool) → Option X → X → Bool
follows before None x = true
follows before (Some last) x = before last x

-- whether each item stands before the next one
abbrev pub rises : {X : Type 0} → (X → X → Bool) → Option X → List X → Bool
rises before last [] = true
rises before last (x ∷ xs) = follows before last x && rises before (Some x) xs

abbrev pub has_lower_key : Entry → Entry → Bool
has_lower_key a b = is_lt (key_cmp a.key b.key)

-- whether no entry of this key is among these
abbrev pub is_elsewhere : List Entry → Entry → Bool
is_elsewhere entries entry = is_none (entry_at entry.key entries)

-- whether all numbers are in their ranges
abbrev pub are_within : Seal → Flat → Bool
are_within seal flat =
    list_all (λ sector. nat_lt sector seal.sectors) flat.named
    && list_all (is_within seal.sectors seal.group) flat.unique
    && list_all (is_within seal.sectors seal.group) flat.duplicate
    && list_all (is_change_within seal.sectors seal.group) flat.active
    && list_all (is_change_within seal.sectors seal.group) flat.flushing

-- whether what is sorted rises
abbrev pub are_sorted : Flat → Bool
are_sorted flat = rises stands_before None flat.slots && rises has_lower_key None flat.unique && rises has_lower_key None flat.duplicate

-- whether each class of the stored table has its own entries
abbrev pub are_classes : Flat → Bool
are_classes flat =
    list_all (λ entry. entry.home.count == 1) flat.unique
    && list_all (λ entry. nat_lt 1 entry.home.count) flat.duplicate
    && list_all (is_elsewhere flat.duplicate) flat.unique

-- whether the logs have as many changes as the seal says
abbrev pub are_counted : Seal → Flat → Bool
are_counted seal flat = (seal.active_changes == length flat.active) && (seal.flushing_changes == length flat.flushing)

-- whether the parts keep the rules together
abbrev pub hold_together : Seal → Flat → Bool
hold_together seal flat = are_within seal flat && are_sorted flat && are_classes flat && are_counted seal flat
