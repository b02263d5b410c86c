-- The slots of a pool in memory are those of its pointers, before and after a change.
use Rattle.std.proofs.Common.{◌≡◌, ℕ, Bool, true, false, not, ◌&&◌, ◌==◌, List, [], ◌∷◌, ◌++◌, filter, find, map, Option, Some, None, refl, sym, ap, ◌∙◌}
use Rattle.std.specs.Prelude.{nat_lt, if◌then◌else◌}
use Rattle.std.specs.List.{AllByRecursion}
use Rattle.std.proofs.lemmas.List.Sums.{fold-append}
use Rattle.ddt_entry.specs.declared.entry.Home.{Home}
use Rattle.ddt_entry.specs.declared.entry.SlotKind.{SlotKind}
use Rattle.ddt_entry.specs.declared.entry.SlotKind.TheVariants.{Plain, Flagged}
use Rattle.disk_model.specs.Images.{Image}
use Rattle.pool_model.specs.declared.closed.SlotChange.{SlotChange}
use Rattle.pool_model.specs.Pool.{Pool, Pointer, tracked, loose, is_at, comes_before, insert_pointer}
use Rattle.pool_model.specs.Table.{TableState, found}
use Rattle.table_state.specs.Flat.{mark_of, pointer_of, table_in}
use Rattle.slot_table.specs.Slots.{is_slot_at, insert_slot, set_slot}
use Rattle.table_state.specs.Pools.{Held, IsHeld, slots_after}
use Rattle.slot_table.specs.declared.slot.SlotRecord.{SlotRecord}
use Rattle.pool_model.proofs.Lists.{all_missed, filter_whole}
use Rattle.table_state.specs.Slots.{kind_of, slot_of, change_to}

-- ---- The slots of a pool

-- the mark that the table gives a slot keeps the slot's kind
kind_back : (kind : SlotKind) (home : Option Home) (place birth : ℕ) → kind_of (mark_of kind home place birth) ≡ kind
kind_back Plain home place birth = refl
kind_back Flagged None place birth = refl
kind_back Flagged (Some home) place birth = by_test (nat_lt 0 home.count && (home.place == place) && (home.birth == birth))
  where
    by_test : (b : Bool) → kind_of (if b then tracked home.since else loose) ≡ Flagged
    by_test true = refl
    by_test false = refl

slot_back : (image : Image) (table : TableState) (slot : SlotRecord) → slot_of (pointer_of image table slot) ≡ slot
slot_back image table slot =
    ap (λ (kind : SlotKind). record {
      lane = slot.lane;
      slot = slot.slot;
      pointer = record { kind = kind; key = slot.pointer.key; place = slot.pointer.place; birth = slot.pointer.birth };
    })
    (kind_back slot.pointer.kind (found table slot.pointer.key) slot.pointer.place slot.pointer.birth)

-- the pointers of slots give the slots back
pub slots_back : (image : Image) (table : TableState) (slots : List SlotRecord) → map slot_of (map (pointer_of image table) slots) ≡ slots
slots_back image table [] = refl
slots_back image table (slot ∷ slots) =
    ap (λ (s : SlotRecord). s ∷ map slot_of (map (pointer_of image table) slots)) (slot_back image table slot)
    ∙ ap (λ (ss : List SlotRecord). slot ∷ ss) (slots_back image table slots)

-- the slots of a pool in memory are those of its pointers
pub held_slots : (image : Image) (held : Held) (pool : Pool) (table : TableState) → IsHeld image held pool table
    → held.slots ≡ map slot_of pool.pointers
held_slots image held pool table is =
    is.slots_are
    ∙ sym (slots_back image (table_in is.stands.seal is.stands.flat) is.stands.flat.slots)
    ∙ ap (λ (p : Pool). map slot_of p.pointers) (sym is.stands.pool_is)

-- ---- A pointer more

-- a slot that holds nothing loses nothing
none_lost : (lane slot : ℕ) (ps : List Pointer) → AllByRecursion (λ q. is_at lane slot q ≡ false) ps
    → filter (λ held. not (is_slot_at lane slot held)) (map slot_of ps) ≡ map slot_of ps
none_lost lane slot ps missed = filter_whole (λ held. not (is_slot_at lane slot held)) (map slot_of ps) (each ps missed)
  where
    each : (qs : List Pointer) → AllByRecursion (λ q. is_at lane slot q ≡ false) qs
        → AllByRecursion (λ held. not (is_slot_at lane slot held) ≡ true) (map slot_of qs)
    each [] all = tt
    each (q ∷ qs) all = (ap not all.0, each qs all.1)

-- a pointer comes to its place among the pointers as its slot does among the slots
inserted : (p : Pointer) (ps : List Pointer) → insert_slot (slot_of p) (map slot_of ps) ≡ map slot_of (insert_pointer p ps)
inserted p [] = refl
inserted p (q ∷ qs) = by_test (comes_before p q) (inserted p qs)
  where
    by_test : (b : Bool) → insert_slot (slot_of p) (map slot_of qs) ≡ map slot_of (insert_pointer p qs)
        → (if b then slot_of p ∷ slot_of q ∷ map slot_of qs else slot_of q ∷ insert_slot (slot_of p) (map slot_of qs)) ≡ map slot_of
        (if b then p ∷ q ∷ qs else q ∷ insert_pointer p qs)
    by_test true rest = refl
    by_test false rest = ap (λ (ss : List SlotRecord). slot_of q ∷ ss) rest

-- the change to a pointer brings the slots what the pointer brings the pool, where the slot was empty
pub slot_set : (p : Pointer) (ps : List Pointer) → find (is_at p.lane p.slot) ps ≡ None
    → set_slot (map slot_of ps) (change_to p) ≡ map slot_of (insert_pointer p ps)
slot_set p ps empty = ap (insert_slot (slot_of p)) (none_lost p.lane p.slot ps (all_missed (is_at p.lane p.slot) ps empty))
    ∙ inserted p ps

-- one change more is set behind the others
pub change_behind : (changes : List SlotChange) (change : SlotChange) (slots : List SlotRecord)
    → slots_after (changes ++ change ∷ []) slots ≡ set_slot (slots_after changes slots) change
change_behind changes change slots = fold-append set_slot slots changes (change ∷ [])
