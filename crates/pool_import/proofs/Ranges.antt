-- What records spell is in its ranges.
use Rattle.std.proofs.Common.{◌≡◌, ◌≤◌, ◌∙◌, ◌++◌, Bool, true, false, not, cond, ◌&&◌, ◌==◌, ℕ, List, [], ◌∷◌, Option, Some, None, Result, Ok, Err, map, drop, length, refl, sym, ap, subst, append-nil}
use Rattle.std.specs.List.{AllByRecursion}
use Rattle.std.proofs.lemmas.List.{drop_all}
use Rattle.ddt_entry.specs.Changes.{key_in}
use Rattle.ddt_entry.specs.Records.{is_key_length, is_no_home, malformed, change_in, fields_in}
use Rattle.ddt_entry.specs.Spelling.{IsKeyLength}
use Rattle.ddt_entry.specs.declared.key.Key.{Key}
use Rattle.ddt_entry.specs.declared.entry.Home.{Home}
use Rattle.ddt_entry.specs.declared.entry.Entry.{Entry}
use Rattle.ddt_entry.specs.declared.entry.Change.{Change}
use Rattle.ddt_entry.specs.declared.entry.Change.TheVariants as changes
use Rattle.ddt_entry.specs.declared.record.Malformed.{Malformed}
use Rattle.ddt_entry.specs.declared.entry.SlotKind.{SlotKind}
use Rattle.table_state.specs.SlotRecords.{is_slot, slot_in, slot_of, slot_at, kind_said, kind_at}
use Rattle.table_state.specs.Tables.{HasLength}
use Rattle.slot_table.specs.declared.slot.SlotRecord.{SlotRecord}
use Rattle.ddt_entry.proofs.RecordLaws.{is_key_length-from}

-- what holds of each item that a record spells
all_spelled : {X Y : Type 0} (f : List ℕ → Y) (g : X → Y) (P : X → Type 0) → ((r : List ℕ) (x : X) → f r ≡ g x → P x)
    → (rs : List (List ℕ)) (xs : List X) → map f rs ≡ map g xs → AllByRecursion P xs
all_spelled f g P each rs [] same = tt
all_spelled f g P each [] (x ∷ xs) same = absurd (cc same)
all_spelled f g P each (r ∷ rs) (x ∷ xs) same =
    let here : f r ≡ g x = cc same in
    let rest : map f rs ≡ map g xs = cc same in
    (each r x here, all_spelled f g P each rs xs rest)

-- a record that was taken is in its ranges
taken : (sectors group : ℕ) (b : Bool) (found slot : SlotRecord) → is_slot sectors group found ≡ b → cond b (Some found) None ≡ Some slot
    → is_slot sectors group slot ≡ true
taken sectors group true found slot test same =
    let one : found ≡ slot = cc in
    subst (λ (s : SlotRecord). is_slot sectors group s ≡ true) one test
taken sectors group false found slot test same = absurd (cc same)

slot_taken : (sectors group : ℕ) (kind : Option SlotKind) (bytes : List ℕ) (slot : SlotRecord)
    → slot_of sectors group kind bytes ≡ Some slot → is_slot sectors group slot ≡ true
slot_taken sectors group None bytes slot same = absurd (cc same)
slot_taken sectors group (Some kind) bytes slot same = taken sectors group (is_slot sectors group (slot_at kind bytes))
    (slot_at kind bytes) slot refl same

-- so slots that were read are in their ranges
pub slots_in_range : (sectors group : ℕ) (records : List (List ℕ)) (slots : List SlotRecord)
    → map (slot_in sectors group) records ≡ map Some slots → AllByRecursion (λ slot. is_slot sectors group slot ≡ true) slots
slots_in_range sectors group records slots same =
    all_spelled (slot_in sectors group) Some (λ slot. is_slot sectors group slot ≡ true)
    (λ r slot e. slot_taken sectors group (kind_said (kind_at r)) r slot e) records slots same

abbrev said : (long entry gone : Bool) → Key → Home → Result Change Malformed
said long entry gone key home =
    cond (not long) malformed
    (cond entry (Ok (changes.Entry (record { key = key; home = home }))) (cond gone (Ok (changes.Gone key)) malformed))

abbrev key_said : Key → Result Change Malformed → Key
key_said default (Ok change) = key_in change
key_said default (Err fault) = default

-- a change that was said is of the key that was said
said_of : (long entry gone : Bool) (key : Key) (home : Home) (change : Change) → said long entry gone key home ≡ Ok change
    → (long ≡ true) × (key ≡ key_in change)
said_of false entry gone key home change same = absurd (cc same)
said_of true true gone key home change same = (refl, ap (key_said key) same)
said_of true false true key home change same = (refl, ap (key_said key) same)
said_of true false false key home change same = absurd (cc same)

-- so its key has a length that a key can have
change_length : (bytes : List ℕ) (change : Change) → change_in bytes ≡ Ok change → HasLength change
change_length bytes change same =
    let said_so = said_of (is_key_length (fields_in bytes).key.len) ((fields_in bytes).kind == 1)
    (((fields_in bytes).kind == 2) && is_no_home (fields_in bytes).home) (fields_in bytes).key (fields_in bytes).home change same in
    subst (λ (k : Key). IsKeyLength k.len) said_so.1 (is_key_length-from (fields_in bytes).key.len said_so.0)

-- and so have the keys of entries that were read
pub entries_in_range : (records : List (List ℕ)) (entries : List Entry)
    → map change_in records ≡ map (λ entry. Ok (changes.Entry entry)) entries → AllByRecursion (λ entry. IsKeyLength entry.key.len) entries
entries_in_range records entries same =
    all_spelled change_in (λ entry. Ok (changes.Entry entry)) (λ entry. IsKeyLength entry.key.len)
    (λ r entry e. change_length r (changes.Entry entry) e) records entries same

-- and those of changes
pub changes_in_range : (records : List (List ℕ)) (log : List Change) → map change_in records ≡ map Ok log → AllByRecursion HasLength log
changes_in_range records log same = all_spelled change_in Ok HasLength change_length records log same

-- a list that was made of all records
pub made_whole : {X Y : Type 0} (f : List ℕ → Y) (g : X → Y) (rs : List (List ℕ)) (xs : List X) (i : ℕ)
    → map g xs ++ map f (drop i rs) ≡ map f rs → length rs ≤ i → map f rs ≡ map g xs
made_whole f g rs xs i so_far done =
    sym so_far ∙ ap (λ l. map g xs ++ map f l) (drop_all i rs done) ∙ append-nil (map g xs)
