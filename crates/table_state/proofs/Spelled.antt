-- The records of a group's chains spell what they were written for, and have 72 bytes each.
use Rattle.std.proofs.Common.{◌≡◌, ℕ, true, List, [], ◌∷◌, Some, Result, Ok, map, length, refl, sym, ap, ◌∙◌}
use Rattle.std.specs.List.{AllByRecursion}
use Rattle.std.proofs.lemmas.List.{append-nil}
use Rattle.ddt_entry.specs.Changes.{key_in}
use Rattle.ddt_entry.specs.Records.{change_in}
use Rattle.ddt_entry.specs.Spelling.{record_bytes, IsKeyLength, Fits as ChangeFits}
use Rattle.ddt_entry.specs.declared.entry.Entry.{Entry}
use Rattle.ddt_entry.specs.declared.entry.Change.{Change}
use Rattle.ddt_entry.specs.declared.entry.Change.TheVariants as changes
use Rattle.ddt_entry.specs.declared.record.Malformed.{Malformed}
use Rattle.ddt_entry.proofs.RecordLaws.{written as change_written, length-record}
use Rattle.page_tree.specs.Chains.{record_len}
use Rattle.table_state.specs.SlotRecords.{slot_in, is_slot}
use Rattle.table_state.specs.Spelling.{slot_bytes, FitsSlot}
use Rattle.table_state.specs.Sealed.{entry_bytes}
use Rattle.slot_table.specs.declared.slot.SlotRecord.{SlotRecord}
use Rattle.pool_model.proofs.Lists.{all_from_both}
use Rattle.table_state.proofs.SlotLaws.{written as slot_written, is_slot-from, length-slot}

-- ---- Of each element

-- what follows of the image of an element holds of each image
each_mapped : {X Y : Type 0} (f : X → Y) (P : X → Type 0) (Q : Y → Type 0) → ((x : X) → P x → Q (f x)) → (xs : List X) → AllByRecursion P xs
    → AllByRecursion Q (map f xs)
each_mapped f P Q so [] all = tt
each_mapped f P Q so (x ∷ xs) all = (so x all.0, each_mapped f P Q so xs all.1)

-- records that are read one by one are read as a list
each_read : {X Y : Type 0} (spell : X → List ℕ) (read : List ℕ → Y) (said : X → Y) (P : X → Type 0)
    → ((x : X) → P x → read (spell x) ≡ said x) → (xs : List X) → AllByRecursion P xs → map read (map spell xs) ≡ map said xs
each_read spell read said P one [] all = refl
each_read spell read said P one (x ∷ xs) all =
    ap (λ y. y ∷ map read (map spell xs)) (one x all.0) ∙ ap (λ ys. said x ∷ ys) (each_read spell read said P one xs all.1)

-- ---- Slots

slot_back : (sectors group : ℕ) (slot : SlotRecord) → (is_slot sectors group slot ≡ true) × FitsSlot slot
    → slot_in sectors group (slot_bytes slot) ≡ Some slot
slot_back sectors group slot can =
    ap (slot_in sectors group) (sym (append-nil (slot_bytes slot)))
    ∙ slot_written sectors group slot [] can.1 (is_slot-from sectors group slot can.0)

-- slots in their ranges are read from their records
pub slots_spelled : (sectors group : ℕ) (slots : List SlotRecord) → AllByRecursion (λ slot. is_slot sectors group slot ≡ true) slots
    → AllByRecursion FitsSlot slots
    → map (slot_in sectors group) (map slot_bytes slots) ≡ map Some slots
slots_spelled sectors group slots within fits =
    each_read slot_bytes (slot_in sectors group) Some (λ slot. (is_slot sectors group slot ≡ true) × FitsSlot slot)
    (slot_back sectors group) slots
    (all_from_both (λ slot. is_slot sectors group slot ≡ true) FitsSlot (λ slot. (is_slot sectors group slot ≡ true) × FitsSlot slot)
    (λ slot is fit. (is, fit)) slots within fits)

pub slots_long : (slots : List SlotRecord) → AllByRecursion FitsSlot slots
    → AllByRecursion (λ bytes. length bytes ≡ record_len) (map slot_bytes slots)
slots_long slots fits = each_mapped slot_bytes FitsSlot (λ bytes. length bytes ≡ record_len) length-slot slots fits

-- ---- Changes and entries

abbrev right : Change → Result Change Malformed
right change = Ok change

change_back : (change : Change) → ChangeFits change × IsKeyLength (key_in change).len → change_in (record_bytes change) ≡ right change
change_back change can = ap change_in (sym (append-nil (record_bytes change))) ∙ change_written change [] can.0 can.1

-- changes are read from their records
pub changes_spelled : (log : List Change) → AllByRecursion ChangeFits log → AllByRecursion (λ change. IsKeyLength (key_in change).len) log
    → map change_in (map record_bytes log) ≡ map Ok log
changes_spelled log fits lengths =
    each_read record_bytes change_in right (λ change. ChangeFits change × IsKeyLength (key_in change).len) change_back log
    (all_from_both ChangeFits (λ change. IsKeyLength (key_in change).len) (λ change. ChangeFits change × IsKeyLength (key_in change).len)
    (λ change fit len. (fit, len)) log fits lengths)

pub changes_long : (log : List Change) → AllByRecursion ChangeFits log
    → AllByRecursion (λ bytes. length bytes ≡ record_len) (map record_bytes log)
changes_long log fits = each_mapped record_bytes ChangeFits (λ bytes. length bytes ≡ record_len) length-record log fits

-- entries are read from the records of their changes
pub entries_spelled : (entries : List Entry) → AllByRecursion (λ entry. ChangeFits (changes.Entry entry)) entries
    → AllByRecursion (λ entry. IsKeyLength entry.key.len) entries
    → map change_in (map entry_bytes entries) ≡ map (λ entry. Ok (changes.Entry entry)) entries
entries_spelled entries fits lengths =
    each_read entry_bytes change_in (λ entry. right (changes.Entry entry))
    (λ entry. ChangeFits (changes.Entry entry) × IsKeyLength entry.key.len) (λ entry can. change_back (changes.Entry entry) can) entries
    (all_from_both (λ (entry : Entry). ChangeFits (changes.Entry entry)) (λ entry. IsKeyLength entry.key.len)
    (λ entry. ChangeFits (changes.Entry entry) × IsKeyLength entry.key.len) (λ entry fit len. (fit, len)) entries fits lengths)

pub entries_long : (entries : List Entry) → AllByRecursion (λ entry. ChangeFits (changes.Entry entry)) entries
    → AllByRecursion (λ bytes. length bytes ≡ record_len) (map entry_bytes entries)
entries_long entries fits =
    each_mapped entry_bytes (λ (entry : Entry). ChangeFits (changes.Entry entry)) (λ bytes. length bytes ≡ record_len)
    (λ entry one. length-record (changes.Entry entry) one) entries fits
