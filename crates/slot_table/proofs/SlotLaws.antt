-- Laws of slots in rising order: one is set, or emptied.
use Rattle.std.proofs.Common.{◌≡◌, ℕ, ◌+◌, ◌^◌, ◌%◌, ◌≤◌, ◌<◌, Bool, true, false, cond, not, ◌&&◌, ◌||◌, ◌==◌, List, [], ◌∷◌, length, filter, find, Option, Some, None, refl, sym, ap, ◌∙◌, arith}
use Rattle.std.specs.Prelude.{nat_lt, IfSome, if◌then◌else◌}
use Rattle.std.specs.List.{AllByRecursion}
use Rattle.std.specs.Option.{option_map}
use Rattle.std.proofs.lemmas.Bool.{false≢true}
use Rattle.std.proofs.lemmas.Bool.Decides.{nat_tests}
use Rattle.std.proofs.lemmas.List.Sums.{sum_by-cons, count_by-le-length}
use Rattle.ddt_entry.specs.declared.entry.Pointer.{Pointer as SlotPointer}
use Rattle.pool_model.specs.Pool.{Pairwise}
use Rattle.pool_model.specs.declared.closed.SlotChange.{SlotChange}
use Rattle.pool_model.proofs.Lists.{all_from, all_filter, all_tested, pairs_filter, filter_whole, length-filter-le, none_found}
use Rattle.pool_model.proofs.Pointers.{order_through}
use Rattle.slot_table.specs.declared.slot.SlotRecord.{SlotRecord}
use Rattle.slot_table.specs.Maps.{moved}
use Rattle.slot_table.specs.Slots.{is_outside, plain_in, plain_of, stands_before, is_slot_at, pointer_at, insert_slot, slot_with, set_slot, held_as, all_held, IsPlaced, AreRisingSlots, AreSlots}

abbrev pub Before : SlotRecord → SlotRecord → Type 0
Before a b = stands_before a b ≡ true

abbrev pub is_other : SlotRecord → SlotRecord → Bool
is_other new held = not (is_slot_at new.lane new.slot held)

-- ---- The order of slots

pub stands_through : (a b c : SlotRecord) → Before a b → Before b c → Before a c
stands_through a b c one other = order_through a.lane a.slot b.lane b.slot c.lane c.slot one other

before_or_behind : (a b c d : ℕ) → (nat_lt a c || ((a == c) && nat_lt b d)) ≡ false → not ((c == a) && (d == b)) ≡ true
    → (nat_lt c a || ((c == a) && nat_lt d b)) ≡ true
before_or_behind a b c d not_before apart = grind (arith, nat_tests, not_before, apart)

apart_before : (a b c d : ℕ) → (nat_lt a c || ((a == c) && nat_lt b d)) ≡ true → not ((c == a) && (d == b)) ≡ true
apart_before a b c d before = grind (arith, nat_tests, before)

-- of two slots at two places one stands before the other
pub stands_behind : (new held : SlotRecord) → stands_before new held ≡ false → is_other new held ≡ true → Before held new
stands_behind new held not_before apart = before_or_behind new.lane new.slot held.lane held.slot not_before apart

-- and a slot before another is at another place
pub other_before : (new held : SlotRecord) → Before new held → is_other new held ≡ true
other_before new held before = apart_before new.lane new.slot held.lane held.slot before

pub others_above : (new : SlotRecord) (slots : List SlotRecord) → AllByRecursion (Before new) slots
    → filter (is_other new) slots ≡ slots
others_above new slots above =
    filter_whole (is_other new) slots
    (all_from (Before new) (λ held. is_other new held ≡ true) (λ held before. other_before new held before) slots above)

-- ---- One slot more

pub each_inserted : (P : SlotRecord → Type 0) (new : SlotRecord) (slots : List SlotRecord) → P new → AllByRecursion P slots
    → AllByRecursion P (insert_slot new slots)
each_inserted P new [] one all = (one, tt)
each_inserted P new (held ∷ slots) one all = by_test (stands_before new held) (each_inserted P new slots one all.1)
  where
    by_test : (b : Bool) → AllByRecursion P (insert_slot new slots)
        → AllByRecursion P (if b then new ∷ held ∷ slots else held ∷ insert_slot new slots)
    by_test true behind = (one, all)
    by_test false behind = (all.0, behind)

pub rising_inserted : (new : SlotRecord) (slots : List SlotRecord) → AllByRecursion (λ held. is_other new held ≡ true) slots
    → Pairwise Before slots → Pairwise Before (insert_slot new slots)
rising_inserted new [] apart rising = (tt, tt)
rising_inserted new (held ∷ slots) apart rising = by_test (stands_before new held) refl (rising_inserted new slots apart.1 rising.1)
  where
    by_test : (b : Bool) → stands_before new held ≡ b → Pairwise Before (insert_slot new slots)
        → Pairwise Before (if b then new ∷ held ∷ slots else held ∷ insert_slot new slots)
    by_test true before more = (
      (before, all_from (Before held) (Before new) (λ s behind. stands_through new held s before behind) slots rising.0),
      rising,
    )
    by_test false behind more = (each_inserted (Before held) new slots (stands_behind new held behind apart.0) rising.0, more)

pub length_inserted : (new : SlotRecord) (slots : List SlotRecord) → length (insert_slot new slots) ≡ length slots + 1
length_inserted new [] = omega arith
length_inserted new (held ∷ slots) = by_test (stands_before new held) (length_inserted new slots)
  where
    by_test : (b : Bool) → length (insert_slot new slots) ≡ length slots + 1
        → length (if b then new ∷ held ∷ slots else held ∷ insert_slot new slots) ≡ length (held ∷ slots) + 1
    by_test true more = omega arith
    by_test false more = omega (arith, more)

-- what comes before all others is put in front of them
pub inserted_first : (new : SlotRecord) (slots : List SlotRecord) → AllByRecursion (Before new) slots → insert_slot new slots ≡ new ∷ slots
inserted_first new [] above = refl
inserted_first new (held ∷ slots) above = ap (λ b. if b then new ∷ held ∷ slots else held ∷ insert_slot new slots) above.0

-- ---- A slot that is set

-- what holds of each slot, and of the one that a change makes, holds of each then
pub each_set : (P : SlotRecord → Type 0) (slots : List SlotRecord) (change : SlotChange)
    → IfSome change.pointer (λ pointer. P (record { lane = change.lane; slot = change.slot; pointer = pointer })) → AllByRecursion P slots
    → AllByRecursion P (set_slot slots change)
each_set P slots change makes all = by_pointer change.pointer makes
  where
    left : AllByRecursion P (filter (λ held. not (is_slot_at change.lane change.slot held)) slots)
    left = all_filter P (λ held. not (is_slot_at change.lane change.slot held)) slots all

    by_pointer : (pointer : Option SlotPointer)
        → IfSome pointer (λ p. P (record { lane = change.lane; slot = change.slot; pointer = p }))
        → AllByRecursion P (slot_with change pointer (filter (λ held. not (is_slot_at change.lane change.slot held)) slots))
    by_pointer None one = left
    by_pointer (Some pointer) one =
        each_inserted P (record { lane = change.lane; slot = change.slot; pointer = pointer })
        (filter (λ held. not (is_slot_at change.lane change.slot held)) slots) one left

-- ---- How many are outside the table

-- one of a slot whose pointer is
abbrev outside : SlotRecord → ℕ
outside held = cond (is_outside held.pointer) 1 0

plain-insert : (new : SlotRecord) (slots : List SlotRecord)
    → plain_in (insert_slot new slots) ≡ plain_in slots + plain_of (Some new.pointer)
plain-insert new [] = omega (arith, sum_by-cons outside new [])
plain-insert new (held ∷ slots) = by_test (stands_before new held) (plain-insert new slots)
  where
    by_test : (b : Bool) → plain_in (insert_slot new slots) ≡ plain_in slots + plain_of (Some new.pointer)
        → plain_in (if b then new ∷ held ∷ slots else held ∷ insert_slot new slots)
        ≡ plain_in (held ∷ slots) + plain_of (Some new.pointer)
    by_test true more = omega (arith, sum_by-cons outside new (held ∷ slots))
    by_test false more = omega (arith, more, sum_by-cons outside held slots, sum_by-cons outside held (insert_slot new slots))

plain-emptied : (lane slot : ℕ) (slots : List SlotRecord) → Pairwise Before slots
    → plain_in (filter (λ held. not (is_slot_at lane slot held)) slots) + plain_of (pointer_at lane slot slots) ≡ plain_in slots
plain-emptied lane slot [] rising = refl
plain-emptied lane slot (held ∷ slots) rising = by_test (is_slot_at lane slot held) refl (plain-emptied lane slot slots rising.1)
  where
    others : List SlotRecord
    others = filter (λ held. not (is_slot_at lane slot held)) slots

    apart_two : (a b c d e f : ℕ) → ((a == e) && (b == f)) ≡ true → (nat_lt a c || ((a == c) && nat_lt b d)) ≡ true
        → ((c == e) && (d == f)) ≡ false
    apart_two a b c d e f first before = grind (arith, nat_tests, first, before)

    by_test : (b : Bool) → is_slot_at lane slot held ≡ b
        → plain_in (filter (λ held. not (is_slot_at lane slot held)) slots) + plain_of (pointer_at lane slot slots) ≡ plain_in slots
        → plain_in (cond (not b) (held ∷ filter (λ held. not (is_slot_at lane slot held)) slots)
        (filter (λ held. not (is_slot_at lane slot held)) slots))
        + plain_of (option_map (λ (s : SlotRecord). s.pointer) (cond b (Some held) (find (is_slot_at lane slot) slots)))
        ≡ plain_in (held ∷ slots)
    by_test true here more =
        let none : plain_of (pointer_at lane slot slots) ≡ 0 = ap (λ o. plain_of (option_map (λ (s : SlotRecord). s.pointer) o))
        (none_found (is_slot_at lane slot) slots
        (all_from (Before held) (λ s. is_slot_at lane slot s ≡ false)
        (λ s before. apart_two held.lane held.slot s.lane s.slot lane slot here before) slots rising.0)) in
        omega (arith, more, none, sum_by-cons outside held slots)
    by_test false apart more =
        omega (
          arith,
          more,
          sum_by-cons outside held slots,
          sum_by-cons outside held (filter (λ held. not (is_slot_at lane slot held)) slots),
        )

-- once a slot was set or emptied
pub plain_set : (slots : List SlotRecord) (change : SlotChange) → AreRisingSlots slots
    → plain_in (set_slot slots change) + plain_of (pointer_at change.lane change.slot slots) ≡ plain_in slots + plain_of change.pointer
plain_set slots change rising = by_pointer change.pointer
  where
    left : plain_in (filter (λ held. not (is_slot_at change.lane change.slot held)) slots)
        + plain_of (pointer_at change.lane change.slot slots) ≡ plain_in slots
    left = plain-emptied change.lane change.slot slots rising

    by_pointer : (pointer : Option SlotPointer)
        → plain_in (slot_with change pointer (filter (λ held. not (is_slot_at change.lane change.slot held)) slots))
        + plain_of (pointer_at change.lane change.slot slots)
        ≡ plain_in slots + plain_of pointer
    by_pointer None = omega (arith, left)
    by_pointer (Some pointer) =
        omega (
          arith,
          left,
          plain-insert (record { lane = change.lane; slot = change.slot; pointer = pointer })
              (filter (λ held. not (is_slot_at change.lane change.slot held)) slots),
        )

-- a number that is kept modulo 2^64 goes on being kept
pub moved_by : (number gone come next : ℕ) → next + gone ≡ number + come → gone < 2 → come < 2
    → moved (number % 2 ^ 64) gone come ≡ next % 2 ^ 64
moved_by number gone come next same few small = omega (arith, same, few, small)

pub one_at_most : (pointer : Option SlotPointer) → plain_of pointer < 2
one_at_most None = omega arith
one_at_most (Some pointer) = by_test (is_outside pointer)
  where
    by_test : (b : Bool) → (if b then 1 else 0) < 2
    by_test true = omega arith
    by_test false = omega arith

-- there are no more than there are slots
pub plain_few : (slots : List SlotRecord) → plain_in slots ≤ length slots
plain_few slots = count_by-le-length (λ (held : SlotRecord). is_outside held.pointer) slots

-- slots go on rising once one was set or emptied
pub rising_set : (slots : List SlotRecord) (change : SlotChange) → AreRisingSlots slots → AreRisingSlots (set_slot slots change)
rising_set slots change rising = by_pointer change.pointer
  where
    left : AreRisingSlots (filter (λ held. not (is_slot_at change.lane change.slot held)) slots)
    left = pairs_filter Before (λ held. not (is_slot_at change.lane change.slot held)) slots rising

    by_pointer : (pointer : Option SlotPointer)
        → AreRisingSlots (slot_with change pointer (filter (λ held. not (is_slot_at change.lane change.slot held)) slots))
    by_pointer None = left
    by_pointer (Some pointer) =
        rising_inserted (record { lane = change.lane; slot = change.slot; pointer = pointer })
        (filter (λ held. not (is_slot_at change.lane change.slot held)) slots)
        (all_tested (λ held. not (is_slot_at change.lane change.slot held) ≡ true) (λ held. not (is_slot_at change.lane change.slot held))
        (λ held other. other) slots) left

-- and each of a lane that there can be
pub slots_set : (slots : List SlotRecord) (change : SlotChange) → change.lane < 16 → change.slot < 65_536 → AreSlots slots
    → AreSlots (set_slot slots change)
slots_set slots change small fits are = record {
  rising = rising_set slots change are.rising;
  placed = each_set IsPlaced slots change (by_pointer change.pointer) are.placed;
}
  where
    by_pointer : (pointer : Option SlotPointer)
        → IfSome pointer (λ p. IsPlaced (record { lane = change.lane; slot = change.slot; pointer = p }))
    by_pointer None = tt
    by_pointer (Some pointer) = record { lane = small; slot = fits }

-- ---- Slots that are set one by one

set_behind : (first new : SlotRecord) (slots : List SlotRecord) → Before first new
    → set_slot (first ∷ slots) (held_as new) ≡ first ∷ set_slot slots (held_as new)
set_behind first new slots before =
    ap (λ b. insert_slot new (cond b (first ∷ filter (is_other new) slots) (filter (is_other new) slots)))
    (elsewhere first.lane first.slot new.lane new.slot before)
    ∙ ap (λ b. if b then new ∷ first ∷ filter (is_other new) slots else first ∷ insert_slot new (filter (is_other new) slots))
    (not_ahead first.lane first.slot new.lane new.slot before)
  where
    elsewhere : (a b c d : ℕ) → (nat_lt a c || ((a == c) && nat_lt b d)) ≡ true → not ((a == c) && (b == d)) ≡ true
    elsewhere a b c d first_before = grind (arith, nat_tests, first_before)

    not_ahead : (a b c d : ℕ) → (nat_lt a c || ((a == c) && nat_lt b d)) ≡ true → (nat_lt c a || ((c == a) && nat_lt d b)) ≡ false
    not_ahead a b c d first_before = grind (arith, nat_tests, first_before)

held_behind : (first : SlotRecord) (more slots : List SlotRecord) → AllByRecursion (Before first) more
    → all_held (first ∷ slots) more ≡ first ∷ all_held slots more
held_behind first [] slots above = refl
held_behind first (new ∷ more) slots above =
    ap (λ (so_far : List SlotRecord). all_held so_far more) (set_behind first new slots above.0)
    ∙ held_behind first more (set_slot slots (held_as new)) above.1

-- rising slots come back when they are set one by one
pub held_back : (slots : List SlotRecord) → AreRisingSlots slots → all_held [] slots ≡ slots
held_back [] rising = refl
held_back (first ∷ slots) rising =
    held_behind first slots [] rising.0 ∙ ap (λ (more : List SlotRecord). first ∷ more) (held_back slots rising.1)

-- ---- What is held then

same_place : (a b c d e f : ℕ) → ((a == c) && (b == d)) ≡ true → ((a == e) && (b == f)) ≡ ((c == e) && (d == f))
same_place a b c d e f same = grind (arith, nat_tests, same)

no_place : (a b c d e f : ℕ) → ((a == c) && (b == d)) ≡ true → ((c == e) && (d == f)) ≡ false → ((a == e) && (b == f)) ≡ false
no_place a b c d e f same apart = same_place a b c d e f same ∙ apart

-- one slot more is what is found at its place
pub at-inserted : (lane slot : ℕ) (new : SlotRecord) (slots : List SlotRecord) → AllByRecursion (λ held. is_other new held ≡ true) slots
    → find (is_slot_at lane slot) (insert_slot new slots) ≡ cond (is_slot_at lane slot new) (Some new) (find (is_slot_at lane slot) slots)
at-inserted lane slot new [] apart = refl
at-inserted lane slot new (held ∷ slots) apart = by_test (stands_before new held) (at-inserted lane slot new slots apart.1)
  where
    other_place : (a b c d e f : ℕ) → not ((c == a) && (d == b)) ≡ true → ((a == e) && (b == f)) ≡ true → ((c == e) && (d == f)) ≡ false
    other_place a b c d e f here there = grind (arith, nat_tests, here, there)

    swaps : (b : Bool) → is_slot_at lane slot new ≡ b
        → cond (is_slot_at lane slot held) (Some held) (cond b (Some new) (find (is_slot_at lane slot) slots)) ≡ cond b (Some new)
        (cond (is_slot_at lane slot held) (Some held) (find (is_slot_at lane slot) slots))
    swaps true there =
        ap (λ d. cond d (Some held) (Some new)) (other_place new.lane new.slot held.lane held.slot lane slot apart.0 there)
    swaps false there = refl

    by_test : (b : Bool) → find (is_slot_at lane slot) (insert_slot new slots) ≡ cond (is_slot_at lane slot new) (Some new)
        (find (is_slot_at lane slot) slots)
        → find (is_slot_at lane slot) (if b then new ∷ held ∷ slots else held ∷ insert_slot new slots) ≡ cond (is_slot_at lane slot new)
        (Some new) (cond (is_slot_at lane slot held) (Some held) (find (is_slot_at lane slot) slots))
    by_test true more = refl
    by_test false more =
        ap (cond (is_slot_at lane slot held) (Some held)) more ∙ swaps (is_slot_at lane slot new) refl

-- at the place of a slot that went there is nothing, and any other slot is as it was
pub at-dropped : (lane slot gone at : ℕ) (slots : List SlotRecord)
    → find (is_slot_at lane slot) (filter (λ held. not (is_slot_at gone at held)) slots) ≡ cond ((gone == lane) && (at == slot)) None
    (find (is_slot_at lane slot) slots)
at-dropped lane slot gone at [] = nothing ((gone == lane) && (at == slot))
  where
    none : Option SlotRecord
    none = None

    nothing : (b : Bool) → none ≡ cond b none none
    nothing true = refl
    nothing false = refl
at-dropped lane slot gone at (held ∷ slots) = by_test (at-dropped lane slot gone at slots) (is_slot_at gone at held) refl
  where
    left : Option SlotRecord
    left = find (is_slot_at lane slot) slots

    taken : (b c : Bool) → b ≡ c → cond b None left ≡ cond b None (cond c (Some held) left)
    taken true c equal = refl
    taken false true equal = absurd (false≢true equal)
    taken false false equal = refl

    stays : (b c : Bool) → (c ≡ true → b ≡ false) → cond c (Some held) (cond b None left) ≡ cond b None (cond c (Some held) left)
    stays true true apart = absurd (false≢true (sym (apart refl)))
    stays false true apart = refl
    stays true false apart = refl
    stays false false apart = refl

    other_place : (a b c d e f : ℕ) → ((a == c) && (b == d)) ≡ false → ((a == e) && (b == f)) ≡ true → ((c == e) && (d == f)) ≡ false
    other_place a b c d e f here there = grind (arith, nat_tests, here, there)

    by_test : find (is_slot_at lane slot) (filter (λ s. not (is_slot_at gone at s)) slots) ≡ cond ((gone == lane) && (at == slot)) None left
        → (b : Bool) → is_slot_at gone at held ≡ b
        → find (is_slot_at lane slot) (cond (not b) (held ∷ filter (λ s. not (is_slot_at gone at s)) slots)
        (filter (λ s. not (is_slot_at gone at s)) slots)) ≡ cond ((gone == lane) && (at == slot)) None
        (cond (is_slot_at lane slot held) (Some held) left)
    by_test rest true here =
        rest ∙ taken ((gone == lane) && (at == slot)) (is_slot_at lane slot held)
        (sym (same_place held.lane held.slot gone at lane slot here))
    by_test rest false here =
        ap (cond (is_slot_at lane slot held) (Some held)) rest ∙ stays ((gone == lane) && (at == slot)) (is_slot_at lane slot held)
        (λ there. other_place held.lane held.slot gone at lane slot here there)

-- what a slot holds once one was set: that one's pointer at its place, and what it held at any other
pub pointer_at-set : (lane slot : ℕ) (change : SlotChange) (slots : List SlotRecord)
    → pointer_at lane slot (set_slot slots change) ≡ cond ((change.lane == lane) && (change.slot == slot)) change.pointer
    (pointer_at lane slot slots)
pointer_at-set lane slot change slots = by_pointer change.pointer
  where
    by_place : (b : Bool) → option_map (λ (held : SlotRecord). held.pointer) (cond b None (find (is_slot_at lane slot) slots)) ≡ cond b None
        (pointer_at lane slot slots)
    by_place true = refl
    by_place false = refl

    here : (pointer : SlotPointer) (b : Bool)
        → option_map (λ (held : SlotRecord). held.pointer)
        (cond b (Some (record { lane = change.lane; slot = change.slot; pointer = pointer }))
        (cond b None (find (is_slot_at lane slot) slots))) ≡ cond b (Some pointer) (pointer_at lane slot slots)
    here pointer true = refl
    here pointer false = refl

    by_pointer : (pointer : Option SlotPointer)
        → pointer_at lane slot (slot_with change pointer (filter (λ held. not (is_slot_at change.lane change.slot held)) slots))
        ≡ cond ((change.lane == lane) && (change.slot == slot)) pointer (pointer_at lane slot slots)
    by_pointer None =
        ap (option_map (λ (held : SlotRecord). held.pointer)) (at-dropped lane slot change.lane change.slot slots)
        ∙ by_place ((change.lane == lane) && (change.slot == slot))
    by_pointer (Some pointer) =
        ap (option_map (λ (held : SlotRecord). held.pointer))
        (at-inserted lane slot (record { lane = change.lane; slot = change.slot; pointer = pointer }) _
        (all_tested (λ held. not (is_slot_at change.lane change.slot held) ≡ true) (λ held. not (is_slot_at change.lane change.slot held))
        (λ held other. other) slots)
        ∙ ap (cond ((change.lane == lane) && (change.slot == slot))
        (Some (record { lane = change.lane; slot = change.slot; pointer = pointer }))) (at-dropped lane slot change.lane change.slot slots))
        ∙ here pointer ((change.lane == lane) && (change.slot == slot))

-- at most one slot more holds a pointer
pub length-set_slot : (slots : List SlotRecord) (change : SlotChange) → length (set_slot slots change) ≤ length slots + 1
length-set_slot slots change = by_pointer change.pointer
  where
    fewer : length (filter (λ held. not (is_slot_at change.lane change.slot held)) slots) ≤ length slots
    fewer = length-filter-le (λ held. not (is_slot_at change.lane change.slot held)) slots

    by_pointer : (pointer : Option SlotPointer)
        → length (slot_with change pointer (filter (λ held. not (is_slot_at change.lane change.slot held)) slots)) ≤ length slots + 1
    by_pointer None = omega (arith, fewer)
    by_pointer (Some pointer) = omega (
      arith,
      fewer,
      length_inserted (record { lane = change.lane; slot = change.slot; pointer = pointer })
          (filter (λ held. not (is_slot_at change.lane change.slot held)) slots),
    )
