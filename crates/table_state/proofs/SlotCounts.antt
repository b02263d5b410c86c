-- Slots that rise, each in the range of its lane and slot, are no more than there are numbers for them; and no home
-- counts more pointers than a pool has.
use Rattle.std.proofs.Common.{◌≡◌, ℕ, zero, suc, ◌+◌, ◌*◌, ◌<◌, ◌≤◌, true, List, [], ◌∷◌, length, All, Option, Some, None, refl, sym, ap, ◌∙◌, arith}
use Rattle.std.specs.Prelude.{if◌then◌else◌}
use Rattle.std.specs.List.{AllByRecursion}
use Rattle.std.proofs.lemmas.List.Elements.{All-nil, All-cons}
use Rattle.std.proofs.lemmas.Bool.{lt-ltb}
use Rattle.std.proofs.lemmas.Bool.Decides.{nat_tests}
use Rattle.ddt_entry.specs.declared.key.Key.{Key}
use Rattle.ddt_entry.specs.declared.entry.Home.{Home}
use Rattle.disk_model.specs.Images.{Image}
use Rattle.pool_model.specs.Pool.{Pool, Pointer, tracks, tracked_at}
use Rattle.pool_model.specs.Table.{TableState, found, counted, home_of_pointers, Matches}
use Rattle.slot_table.specs.Slots.{stands_before, AreRisingSlots}
use Rattle.table_state.specs.Flat.{pointer_of, table_in}
use Rattle.table_state.specs.Pools.{Held, IsHeld}
use Rattle.table_state.specs.Sound.{IsSound}
use Rattle.table_state.specs.SlotRecords.{is_slot}
use Rattle.slot_table.specs.declared.slot.SlotRecord.{SlotRecord}
use Rattle.std.proofs.lemmas.List.{length-map}
use Rattle.pool_model.proofs.Lists.{length-filter-le}

-- the slots of all lanes in one row
abbrev number : SlotRecord → ℕ
number slot = slot.lane * 65536 + slot.slot

-- what a slot in its range is
record InRange (slot : SlotRecord) : Type 0 where
  lane : slot.lane ≤ 15
  last : slot.slot ≤ 65535
  short : slot.pointer.key.len ≤ 4096

in_range : (sectors group : ℕ) (slot : SlotRecord) → is_slot sectors group slot ≡ true → InRange slot
in_range sectors group slot is =
    record { lane = grind (arith, nat_tests); last = grind (arith, nat_tests); short = grind (arith, nat_tests) }

number_rises : (a b : SlotRecord) → stands_before a b ≡ true → a.slot ≤ 65535 → number a < number b
number_rises a b before last = grind (arith, nat_tests)

-- slots that begin at a number leave room for no more than the numbers from there on
length-from : (sectors group low : ℕ) (slots : List SlotRecord) → low ≤ 1048576 → AllByRecursion (λ slot. low ≤ number slot) slots
    → AllByRecursion (λ slot. is_slot sectors group slot ≡ true) slots → AreRisingSlots slots → length slots +
    low ≤ 1048576
length-from sectors group low [] most from within rising = omega arith
length-from sectors group low (slot ∷ slots) most from within rising =
    let range = in_range sectors group slot within.0 in
    let next : number slot + 1 ≤ 1048576 = omega (arith, range.lane, range.last) in
    let above : AllByRecursion (λ s. number slot + 1 ≤ number s) slots = behind slots rising.0 in
    omega (arith, from.0, length-from sectors group (number slot + 1) slots next above within.1 rising.1)
  where
    behind : (rest : List SlotRecord) → AllByRecursion (λ b. stands_before slot b ≡ true) rest
        → AllByRecursion (λ s. number slot + 1 ≤ number s) rest
    behind [] before = tt
    behind (b ∷ rest) before =
        let range = in_range sectors group slot within.0 in
        let rises = number_rises slot b before.0 range.last in
        (omega (arith, rises), behind rest before.1)

all_from_zero : (slots : List SlotRecord) → AllByRecursion (λ slot. 0 ≤ number slot) slots
all_from_zero [] = tt
all_from_zero (slot ∷ slots) = (omega arith, all_from_zero slots)

-- slots that rise are at most 1,048,576
pub length-rising : (sectors group : ℕ) (slots : List SlotRecord) → AllByRecursion (λ slot. is_slot sectors group slot ≡ true) slots
    → AreRisingSlots slots → length slots ≤ 1048576
length-rising sectors group slots within rising =
    omega (arith, length-from sectors group 0 slots (omega arith) (all_from_zero slots) within rising)

-- the keys of slots are short
pub short_keys : (sectors group : ℕ) (slots : List SlotRecord) → AllByRecursion (λ slot. is_slot sectors group slot ≡ true) slots
    → All (λ slot. slot.pointer.key.len ≤ 4096) slots
short_keys sectors group [] within = All-nil (λ (slot : SlotRecord). slot.pointer.key.len ≤ 4096)
short_keys sectors group (slot ∷ slots) within =
    All-cons (λ (slot : SlotRecord). slot.pointer.key.len ≤ 4096) slot slots (in_range sectors group slot within.0).short
    (short_keys sectors group slots within.1)

-- the slots of a sound pool are at most that many
pub few_slots : (held : Held) → IsSound held → length held.slots ≤ 1048576
few_slots held sound = length-rising held.sectors held.group held.slots sound.slots_within sound.slots_rising

-- ---- What homes count

pub count_of : (ps : List Pointer) (home : Home) → home_of_pointers ps ≡ Some home → home.count ≡ length ps
count_of [] home is = absurd (cc is)
count_of (p ∷ ps) home is = ap count_in (sym is)
  where
    count_in : Option Home → ℕ
    count_in None = 0
    count_in (Some h) = h.count

-- a home that a matching table finds counts no more pointers than the pool has
pub counts_few : (pool : Pool) (table : TableState) → Matches pool table → (key : Key) (home : Home) → found table key ≡ Some home
    → home.count ≤ length pool.pointers
counts_few pool table matches key home there = by_count home.count refl
  where
    by_count : (count : ℕ) → home.count ≡ count → count ≤ length pool.pointers
    by_count zero none = omega arith
    by_count (suc count) some =
        let is_counted : counted (Some home) ≡ Some home = ap (λ b. if b then Some home else None)
        (lt-ltb 0 home.count (omega (arith, some))) in
        let tracked : home_of_pointers (tracked_at pool key) ≡ Some home = sym (matches.homes key) ∙ ap counted there ∙ is_counted in
        let here : home.count ≡ length (tracked_at pool key) = count_of (tracked_at pool key) home tracked in
        omega (arith, some, here, length-filter-le (tracks key) pool.pointers)

-- nor more than it has slots, where a pool in memory is held
pub counts_held : (image : Image) (held : Held) (pool : Pool) (table : TableState) → IsHeld image held pool table
    → (key : Key) (home : Home) → found held.table key ≡ Some home → home.count ≤ length held.slots
counts_held image held pool table is key home there =
    omega (
      arith,
      counts_few pool table is.stands.matches key home (ap (λ (t : TableState). found t key) (sym is.table_is) ∙ there),
      ap (λ (p : Pool). length p.pointers) is.stands.pool_is,
      length-map is.stands.flat.slots (pointer_of image (table_in is.stands.seal is.stands.flat)),
      ap (λ (slots : List SlotRecord). length slots) is.slots_are,
    )
