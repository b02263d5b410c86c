-- The sums that a pool in memory keeps are those of the pool that it stands for.
use Rattle.std.proofs.Common.{◌≡◌, ◌≤◌, ◌&&◌, ◌==◌, ℕ, Bool, true, false, cond, List, [], ◌∷◌, length, map, filter, All, Option, Some, None, count_by, nat_lt, refl, sym, ap, subst, ◌∙◌, arith}
use Rattle.std.specs.Prelude.{if◌then◌else◌}
use Rattle.std.specs.List.{AllByRecursion}
use Rattle.std.proofs.lemmas.List.{length-map}
use Rattle.std.proofs.lemmas.List.Sums.{sum_by-cons}
use Rattle.std.proofs.lemmas.List.Elements.{All-map}
use Rattle.ddt_entry.specs.declared.key.Key.{Key}
use Rattle.ddt_entry.specs.declared.entry.Home.{Home}
use Rattle.ddt_entry.specs.declared.entry.Entry.{Entry}
use Rattle.ddt_entry.specs.declared.entry.SlotKind.{SlotKind}
use Rattle.ddt_entry.specs.declared.entry.SlotKind.TheVariants.{Plain, Flagged}
use Rattle.disk_model.specs.Images.{Image}
use Rattle.pool_model.specs.Pool.{Pool, Pointer, tracked, loose, is_plain, count_at, tracked_at, keys_in}
use Rattle.pool_model.specs.Table.{TableState, IsTable, Matches, found, counted, counted_homes, entries_found, home_of_pointers}
use Rattle.pool_model.proofs.Lists.{all_from, all_from_both, all_filter, all_tested}
use Rattle.pool_model.proofs.Loops.{map-same}
use Rattle.pool_model.proofs.Finding.{each_found}
use Rattle.pool_model.proofs.Keys.{keys_are_counted_homes}
use Rattle.pool_model.proofs.Matching.{matches_read}
use Rattle.pool_stats.specs.References.{reference_of, AreSmall}
use Rattle.pool_stats.specs.Totals.{key_count, AreHomesOf}
use Rattle.pool_stats.specs.declared.reference.Reference.{Reference}
use Rattle.slot_table.specs.Slots.{plain_in, is_outside, is_plain_kind}
use Rattle.slot_table.specs.declared.slot.SlotRecord.{SlotRecord}
use Rattle.table_state.specs.Flat.{pointer_of, table_in, mark_of}
use Rattle.table_state.specs.Pools.{Held, IsHeld}
use Rattle.table_state.specs.Sound.{IsSound}
use Rattle.table_state.proofs.SlotCounts.{count_of, few_slots, short_keys}
use Rattle.table_state.proofs.SoundOf.{held_sound}

-- ---- The counted homes are those of the pool's keys

-- an entry that is found and counted counts its key's pointers
entry_counts : (pool : Pool) (table : TableState) → Matches pool table → (e : Entry) → found table e.key ≡ Some e.home
    → nat_lt 0 e.home.count ≡ true → key_count e ≡ record { key = e.key; count = count_at pool e.key }
entry_counts pool table matches e there some =
    let tracked : home_of_pointers (tracked_at pool e.key) ≡ Some e.home =
    sym (matches.homes e.key) ∙ ap counted there ∙ ap (λ b. if b then Some e.home else None) some in
    let count : e.home.count ≡ count_at pool e.key = count_of (tracked_at pool e.key) e.home tracked in
    λ i. record { key = e.key; count = count i }

map_of_map : {X Y Z : Type 0} (f : Y → Z) (g : X → Y) (xs : List X) → map (λ x. f (g x)) xs ≡ map f (map g xs)
map_of_map f g [] = refl
map_of_map f g (x ∷ xs) = ap (λ ys. f (g x) ∷ ys) (map_of_map f g xs)

counts_match : (pool : Pool) (table : TableState) → Matches pool table
    → map key_count (counted_homes table) ≡ map (λ key. record { key = key; count = count_at pool key }) (keys_in pool)
counts_match pool table matches =
    map-same key_count (λ (e : Entry). record { key = e.key; count = count_at pool e.key }) (counted_homes table)
    (all_from_both (λ (e : Entry). found table e.key ≡ Some e.home) (λ (e : Entry). nat_lt 0 e.home.count ≡ true)
    (λ (e : Entry). key_count e ≡ record { key = e.key; count = count_at pool e.key })
    (λ e there some. entry_counts pool table matches e there some) (counted_homes table)
    (all_filter (λ (e : Entry). found table e.key ≡ Some e.home) (λ (e : Entry). nat_lt 0 e.home.count) (entries_found table)
    (each_found table matches.sorted))
    (all_counted table))
    ∙ map_of_map (λ key. record { key = key; count = count_at pool key }) (λ (e : Entry). e.key) (counted_homes table)
    ∙ ap (map (λ key. record { key = key; count = count_at pool key }))
    (keys_are_counted_homes pool table matches.sorted (matches_read pool table matches))
  where
    all_counted : (table : TableState) → AllByRecursion (λ (e : Entry). nat_lt 0 e.home.count ≡ true) (counted_homes table)
    all_counted table =
        all_tested (λ (e : Entry). nat_lt 0 e.home.count ≡ true) (λ (e : Entry). nat_lt 0 e.home.count) (λ e some. some)
        (entries_found table)

-- ---- The slots are the pool's pointers

plain_alike : (kind : SlotKind) (home : Option Home) (place birth : ℕ) → is_plain (mark_of kind home place birth) ≡ is_plain_kind kind
plain_alike Plain home place birth = refl
plain_alike Flagged None place birth = refl
plain_alike Flagged (Some home) place birth = by_test (nat_lt 0 home.count && (home.place == place) && (home.birth == birth))
  where
    by_test : (b : Bool) → is_plain (if b then tracked home.since else loose) ≡ false
    by_test true = refl
    by_test false = refl

plain_slots : (image : Image) (table : TableState) (slots : List SlotRecord)
    → plain_in slots ≡ count_by (λ (p : Pointer). is_plain p.mark) (map (pointer_of image table) slots)
plain_slots image table [] = refl
plain_slots image table (slot ∷ slots) =
    omega (
      arith,
      plain_slots image table slots,
      sum_by-cons (λ (s : SlotRecord). cond (is_outside s.pointer) 1 0) slot slots,
      sum_by-cons (λ (p : Pointer). cond (is_plain p.mark) 1 0) (pointer_of image table slot) (map (pointer_of image table) slots),
      ap one (plain_alike slot.pointer.kind (found table slot.pointer.key) slot.pointer.place slot.pointer.birth),
    )
  where
    one : Bool → ℕ
    one b = cond b 1 0

few_references : (image : Image) (table : TableState) (slots : List SlotRecord) → length slots ≤ 1048576
    → All (λ (slot : SlotRecord). slot.pointer.key.len ≤ 4096) slots → AreSmall (map reference_of (map (pointer_of image table) slots))
few_references image table slots few short = record {
  few = omega (arith, few, length-map slots (pointer_of image table), length-map (map (pointer_of image table) slots) reference_of);
  short =
      All-map (λ (r : Reference). r.key.len ≤ 4096) reference_of (map (pointer_of image table) slots)
      (All-map (λ (p : Pointer). p.key.len ≤ 4096) (pointer_of image table) slots short);
}

-- so the counted homes are those of the pool
pub homes_of_pool : (image : Image) (held : Held) (pool : Pool) (table : TableState) → IsHeld image held pool table
    → AreHomesOf pool (counted_homes table) (length held.slots) (plain_in held.slots)
homes_of_pool image held pool table is = record {
  counted = all_tested (λ (e : Entry). nat_lt 0 e.home.count ≡ true) (λ (e : Entry). nat_lt 0 e.home.count) (λ e some. some)
      (entries_found table);
  counts = counts_match pool table is.stands.matches;
  pointers = sym (length-map held.slots (pointer_of image held_table)) ∙ ap length pointers_are;
  outside = plain_slots image held_table held.slots ∙ ap (count_by (λ (p : Pointer). is_plain p.mark)) pointers_are;
  small =
      subst (λ ps. AreSmall (map reference_of ps)) pointers_are
      (few_references image held_table held.slots (few_slots held sound) (short_keys held.sectors held.group held.slots sound.slots_within));
}
  where
    held_table : TableState
    held_table = table_in is.stands.seal is.stands.flat

    sound : IsSound held
    sound = held_sound image held pool table is

    pointers_are : map (pointer_of image held_table) held.slots ≡ pool.pointers
    pointers_are = ap (map (pointer_of image held_table)) is.slots_are ∙ ap (λ (p : Pool). p.pointers) (sym is.stands.pool_is)
