-- What the tests of the whole of an image come to.
use Rattle.std.proofs.Common.{◌≡◌, ℕ, ◌<◌, ◌≤◌, Bool, true, false, not, ◌||◌, ◌==◌, List, [], ◌∷◌, length, get_or, map, replicate, Some, refl, sym, ap, subst, ◌∙◌, arith, eq-eqb}
use Rattle.std.specs.Prelude.{nat_lt, sum_by}
use Rattle.std.specs.List.{AllByRecursion, list_any, list_all}
use Rattle.std.proofs.lemmas.Bool.{false≢true, or_parts}
use Rattle.std.proofs.lemmas.Bool.Decides.{nat_tests}
use Rattle.std.proofs.lemmas.List.{length-map}
use Rattle.ddt_entry.specs.Spelling.{IsKeyLength}
use Rattle.ddt_entry.specs.declared.entry.Entry.{Entry}
use Rattle.disk_model.specs.Images.{Image}
use Rattle.grant_book.specs.Sectors.{marked, ring_used}
use Rattle.grant_book.proofs.MarkLaws.{length-marked, marked-at, length-ring_used, ring_used-at}
use Rattle.uber_ring.specs.declared.seal.Seal.{Seal}
use Rattle.pool_model.specs.Pool.{Pool, Pointer, Pairwise, IsApart, run_length, LiesWithin, is_at, comes_before}
use Rattle.pool_model.specs.Table.{TableState, IsApartFrom, waiting_in, entries_found, counted_homes, IsTable}
use Rattle.pool_model.specs.Space.{used_sectors}
use Rattle.table_state.specs.Flat.{Flat, HoldTogether, IsWithin, IsChangeWithin, IsClear, table_in, pool_in, pointer_of}
use Rattle.table_state.specs.SealForms.{mode_in}
use Rattle.table_state.specs.SlotRecords.{is_slot}
use Rattle.table_state.specs.Tables.{IsTableWithin, HasLength}
use Rattle.slot_table.specs.declared.slot.SlotRecord.{SlotRecord}
use Rattle.table_state.proofs.UnusedOf.{each_fails}
use Rattle.table_state.proofs.UsedLaws.{one_sector, used_is}
use Rattle.pool_model.proofs.Lists.{all_filter, all_from, all_from_both}
use Rattle.pool_import.specs.Lengths.{HasLengths}
use Rattle.pool_import.specs.Marks.{spot_of, spot_in, go_apart, is_counted, are_owned, taken, places_of, places_in, is_clear}
use Rattle.pool_import.specs.Whole.{IsWhole}
use Rattle.pool_import.specs.declared.marks.Spot.{Spot}
use Rattle.pool_import.proofs.Lengths.{key_lengths}
use Rattle.pool_import.proofs.JudgingLists.{every_unmap, pairs_map, pairs_unmap, pairs_weaker, list_all-each, each-list_all}
use Rattle.pool_import.proofs.JudgingFound.{every_found}
use Rattle.pool_import.proofs.JudgingHomes.{IsKnown, known_of, homes_if_counted, counted_if_homes}
use Rattle.pool_import.proofs.JudgingPairs.{apart_if, differ_if, ranged_of, within_of, IsInOrder, slots_differ, together_if_apart, apart_if_together}
use Rattle.pool_import.proofs.JudgingUsed.{taken_if_free, WasTaken, free_if_taken}
use Rattle.pool_import.proofs.JudgingOwners.{apart_if_owned, owned_if_apart}
use Rattle.pool_model.proofs.Loops.{all_mapped}

-- ---- Lists

-- where each fails, none passes
none_any : {X : Type 0} (test : X → Bool) (xs : List X) → AllByRecursion (λ x. test x ≡ false) xs → list_any test xs ≡ false
none_any test [] each = refl
none_any test (x ∷ xs) each = ap (λ b. b || list_any test xs) each.0 ∙ none_any test xs each.1

-- the spots of a pool's pointers are those of the slots
spots_are : (image : Image) (table : TableState) (slots : List SlotRecord)
    → map spot_in (map (pointer_of image table) slots) ≡ map (spot_of table) slots
spots_are image table [] = refl
spots_are image table (slot ∷ slots) = ap (λ l. spot_of table slot ∷ l) (spots_are image table slots)

-- and so are their places
places_are : (pointers : List Pointer) → places_of (map spot_in pointers) ≡ map (λ (p : Pointer). p.place) pointers
places_are [] = refl
places_are (p ∷ pointers) = ap (λ (places : List ℕ). p.place ∷ places) (places_are pointers)

-- a test that fails
unnot : (b : Bool) → not b ≡ true → b ≡ false
unnot true is = absurd (false≢true is)
unnot false is = refl

-- a place behind the ring
not_ring : (place : ℕ) → 32 ≤ place → nat_lt place 32 ≡ false
not_ring place start = grind (arith, nat_tests)

-- ---- Homes that wait

-- a home's place is a sector that a block can have
record IsRoomed (sectors : ℕ) (e : Entry) : Type 0 where
  start : 32 ≤ e.home.place
  on_disk : e.home.place < sectors
  run : run_length e.key ≡ 1

-- what stands to be judged
pub record Grounds (seal : Seal) (flat : Flat) : Type 0 where
  pub together : HoldTogether seal flat
  pub slots : AllByRecursion (λ slot. is_slot seal.sectors seal.group slot ≡ true) flat.slots
  pub lengths : HasLengths flat
  pub sorted : IsTable (table_in seal flat)
  pub within : IsTableWithin seal.sectors seal.group (table_in seal flat)
  pub modes : length seal.modes ≡ 16

-- each home that the table finds has such a place
found_roomed : (seal : Seal) (flat : Flat) → Grounds seal flat → AllByRecursion (IsRoomed seal.sectors) (entries_found (table_in seal flat))
found_roomed seal flat grounds =
    let lengths = key_lengths seal flat grounds.lengths in
    all_from_both (IsWithin seal.sectors seal.group) (λ e. IsKeyLength e.key.len) (IsRoomed seal.sectors)
    (λ e ranges len. record { start = ranges.place; on_disk = ranges.on_disk; run = one_sector e.key len })
    (entries_found (table_in seal flat))
    (every_found (IsWithin seal.sectors seal.group) (IsChangeWithin seal.sectors seal.group) (λ e is. is)
    (table_in seal flat) grounds.within.zap grounds.within.flush grounds.within.active)
    (every_found (λ e. IsKeyLength e.key.len) HasLength (λ e is. is) (table_in seal flat) lengths.zap lengths.flush lengths.active)

-- ---- The tests, and what they say of any image

module _ (seal : Seal) (flat : Flat) (grounds : Grounds seal flat) where
  abbrev table : TableState
  table = table_in seal flat

  abbrev spots : List Spot
  spots = map (spot_of table) flat.slots

  abbrev waiting : List Entry
  waiting = waiting_in table

  abbrev on_pages : List Bool
  on_pages = marked (ring_used seal.sectors) flat.named

  abbrev with_spots : List Bool
  with_spots = marked on_pages (places_of spots)

  waiting_roomed : AllByRecursion (IsRoomed seal.sectors) waiting
  waiting_roomed = all_filter (IsRoomed seal.sectors) (λ e. e.home.count == 0) (entries_found table) (found_roomed seal flat grounds)

  length-pages : length on_pages ≡ seal.sectors
  length-pages = length-marked flat.named (ring_used seal.sectors) ∙ length-ring_used seal.sectors

  length-spots : length with_spots ≡ seal.sectors
  length-spots = length-marked (places_of spots) on_pages ∙ length-pages

  pages-at : (s : ℕ) → s < seal.sectors → get_or on_pages s false ≡ (nat_lt s 32 || list_any (λ page. page == s) flat.named)
  pages-at s within =
      marked-at flat.named (ring_used seal.sectors) s false (omega (arith, within, length-ring_used seal.sectors))
      ∙ ap (λ b. b || list_any (λ page. page == s) flat.named) (ring_used-at seal.sectors s false within)

  spots-at : (s : ℕ) → s < seal.sectors
      → get_or with_spots s
      false ≡ ((nat_lt s 32 || list_any (λ page. page == s) flat.named) || list_any (λ place. place == s) (places_of spots))
  spots-at s within =
      marked-at (places_of spots) on_pages s false (omega (arith, within, length-pages))
      ∙ ap (λ b. b || list_any (λ place. place == s) (places_of spots)) (pages-at s within)

  -- the answers of all tests
  pub record Passed (used : List Bool) : Type 0 where
    pub homes : seal.homes ≡ length (counted_homes table)
    pub references : seal.counts ≡ sum_by (λ entry. entry.home.count) (counted_homes table)
    pub pages : seal.pages ≡ length flat.named
    pub are_counted : list_all (is_counted spots) (counted_homes table) ≡ true
    pub are_clear : list_all (is_clear on_pages) spots ≡ true
    pub owned : are_owned spots 0 (replicate seal.sectors 0) spots ≡ true
    pub were_taken : taken with_spots (places_in waiting) ≡ Some used

  waits_within : AllByRecursion (λ place. place < length with_spots) (places_in waiting)
  waits_within =
      all_mapped (λ place. place < length with_spots) (λ (e : Entry). e.home.place) waiting
      (all_from (IsRoomed seal.sectors) (λ (e : Entry). e.home.place < length with_spots)
      (λ e roomed. let on = roomed.on_disk in omega (arith, on, length-spots)) waiting waiting_roomed)

  -- the homes that wait lie apart where their places differ
  waits_apart : Pairwise (λ (a b : ℕ). (a == b) ≡ false) (places_in waiting)
      → Pairwise (λ (a b : Entry). IsApart a.home.place (run_length a.key) b.home.place (run_length b.key)) waiting
  waits_apart differ =
      pairs_weaker (IsRoomed seal.sectors) (λ (a b : Entry). (a.home.place == b.home.place) ≡ false)
      (λ (a b : Entry). IsApart a.home.place (run_length a.key) b.home.place (run_length b.key))
      (λ a b one other is. apart_if a.home.place b.home.place (run_length a.key) (run_length b.key) one.run other.run
      (λ same. false≢true (sym is ∙ eq-eqb a.home.place b.home.place same)))
      waiting waiting_roomed (pairs_unmap (λ (a b : ℕ). (a == b) ≡ false) (λ (e : Entry). e.home.place) waiting differ)

  waits_differ : Pairwise (λ (a b : Entry). IsApart a.home.place (run_length a.key) b.home.place (run_length b.key)) waiting
      → Pairwise (λ (a b : ℕ). (a == b) ≡ false) (places_in waiting)
  waits_differ apart =
      pairs_map (λ (a b : ℕ). (a == b) ≡ false) (λ (e : Entry). e.home.place) waiting
      (pairs_weaker (IsRoomed seal.sectors) (λ (a b : Entry). IsApart a.home.place (run_length a.key) b.home.place (run_length b.key))
      (λ (a b : Entry). (a.home.place == b.home.place) ≡ false)
      (λ a b one other is. differ_if a.home.place b.home.place (run_length a.key) (run_length b.key) one.run other.run is) waiting
      waiting_roomed apart)

  module _ (image : Image) where
    abbrev pool : Pool
    pool = pool_in image seal flat

    same_spots : map spot_in pool.pointers ≡ spots
    same_spots = spots_are image table flat.slots

    sound : AllByRecursion (IsInOrder table seal.sectors seal.group) pool.pointers
    sound =
        all_mapped (IsInOrder table seal.sectors seal.group) (pointer_of image table) flat.slots
        (all_from (λ slot. is_slot seal.sectors seal.group slot ≡ true)
        (λ slot. IsInOrder table seal.sectors seal.group (pointer_of image table slot))
        (λ slot is. record { ranged = ranged_of seal.sectors seal.group image table slot is; known = known_of image table slot }) flat.slots
        grounds.slots)

    known : AllByRecursion (IsKnown table) pool.pointers
    known = all_from (IsInOrder table seal.sectors seal.group) (IsKnown table) (λ p is. is.known) pool.pointers sound

    spots_within : AllByRecursion (λ (y : Spot). y.place < seal.sectors) spots
    spots_within =
        subst (AllByRecursion (λ (y : Spot). y.place < seal.sectors)) same_spots
        (all_mapped (λ (y : Spot). y.place < seal.sectors) spot_in pool.pointers
        (all_from (IsInOrder table seal.sectors seal.group) (λ (p : Pointer). p.place < seal.sectors)
        (λ p is. is.ranged.on_disk) pool.pointers sound))

    slots_apart : Pairwise (λ (p q : Pointer). is_at p.lane p.slot q ≡ false) pool.pointers
    slots_apart = slots_differ image table flat.slots grounds.together.slots_rising

    -- what is said of each slot's spot is said of each pointer's
    of_pointers : (P : Spot → Type 0) → AllByRecursion P spots → AllByRecursion (λ (p : Pointer). P (spot_in p)) pool.pointers
    of_pointers P each = every_unmap P spot_in pool.pointers (subst (AllByRecursion P) (sym same_spots) each)

    of_spots : (P : Spot → Type 0) → AllByRecursion (λ (p : Pointer). P (spot_in p)) pool.pointers → AllByRecursion P spots
    of_spots P each = subst (AllByRecursion P) same_spots (all_mapped P spot_in pool.pointers each)

    -- ---- Pages

    clear_if : list_all (is_clear on_pages) spots ≡ true → AllByRecursion (λ (p : Pointer). IsClear flat.named p.place) pool.pointers
    clear_if passed =
        all_from_both (IsInOrder table seal.sectors seal.group) (λ (p : Pointer). is_clear on_pages (spot_in p) ≡ true)
        (λ (p : Pointer). IsClear flat.named p.place)
        (λ p is clear. (or_parts (nat_lt p.place 32) (list_any (λ page. page == p.place) flat.named)
        (sym (pages-at p.place is.ranged.on_disk) ∙ unnot (get_or on_pages p.place false) clear)).1)
        pool.pointers sound (of_pointers (λ spot. is_clear on_pages spot ≡ true) (list_all-each (is_clear on_pages) spots passed))

    clear_then : AllByRecursion (λ (p : Pointer). IsClear flat.named p.place) pool.pointers → list_all (is_clear on_pages) spots ≡ true
    clear_then each =
        each-list_all (is_clear on_pages) spots
        (of_spots (λ spot. is_clear on_pages spot ≡ true)
        (all_from_both (IsInOrder table seal.sectors seal.group) (λ (p : Pointer). IsClear flat.named p.place)
        (λ (p : Pointer). is_clear on_pages (spot_in p) ≡ true)
        (λ p is clear. ap not
        (pages-at p.place is.ranged.on_disk
        ∙ ap (λ b. b || list_any (λ page. page == p.place) flat.named) (not_ring p.place is.ranged.start) ∙ clear))
        pool.pointers sound each))

    -- ---- Homes that wait

    -- what a free place is
    record IsAlone (e : Entry) : Type 0 where
      page : IsClear flat.named e.home.place
      pointers : AllByRecursion (IsApartFrom e) pool.pointers

    alone_if : (e : Entry) → IsRoomed seal.sectors e → get_or with_spots e.home.place false ≡ false → IsAlone e
    alone_if e roomed free =
        let parts = or_parts (nat_lt e.home.place 32 || list_any (λ page. page == e.home.place) flat.named)
        (list_any (λ place. place == e.home.place) (places_of spots)) (sym (spots-at e.home.place roomed.on_disk) ∙ free) in
        record {
          page = (or_parts (nat_lt e.home.place 32) (list_any (λ page. page == e.home.place) flat.named) parts.0).1;
          pointers = all_from_both (IsInOrder table seal.sectors seal.group) (λ (p : Pointer). (p.place == e.home.place) ≡ false)
              (IsApartFrom e)
              (λ p is differ. apart_if e.home.place p.place (run_length e.key) (run_length p.key) roomed.run is.ranged.run
              (λ same. false≢true (sym differ ∙ eq-eqb p.place e.home.place (sym same))))
              pool.pointers sound
              (of_pointers (λ spot. (spot.place == e.home.place) ≡ false)
              (every_unmap (λ place. (place == e.home.place) ≡ false) (λ (spot : Spot). spot.place) spots
              (each_fails (λ place. place == e.home.place) (places_of spots) parts.1)));
        }

    alone_then : (e : Entry) → IsRoomed seal.sectors e → IsAlone e → get_or with_spots e.home.place false ≡ false
    alone_then e roomed alone =
        spots-at e.home.place roomed.on_disk
        ∙ ap (λ b. (b || list_any (λ page. page == e.home.place) flat.named) || list_any (λ place. place == e.home.place) (places_of spots))
        (not_ring e.home.place roomed.start)
        ∙ ap (λ b. b || list_any (λ place. place == e.home.place) (places_of spots)) alone.page
        ∙ none_any (λ place. place == e.home.place) (places_of spots)
        (all_mapped (λ place. (place == e.home.place) ≡ false) (λ (spot : Spot). spot.place) spots
        (of_spots (λ spot. (spot.place == e.home.place) ≡ false)
        (all_from_both (IsInOrder table seal.sectors seal.group) (IsApartFrom e) (λ (p : Pointer). (p.place == e.home.place) ≡ false)
        (λ p is apart. eqb_back e.home.place p.place
        (differ_if e.home.place p.place (run_length e.key) (run_length p.key) roomed.run is.ranged.run apart))
        pool.pointers sound alone.pointers)))
      where
        eqb_back : (a b : ℕ) → (a == b) ≡ false → (b == a) ≡ false
        eqb_back a b differ = grind (arith, nat_tests)

    all_alone : AllByRecursion (λ place. get_or with_spots place false ≡ false) (places_in waiting) → AllByRecursion IsAlone waiting
    all_alone free =
        all_from_both (IsRoomed seal.sectors)
        (λ (e : Entry). get_or with_spots e.home.place false ≡ false) IsAlone alone_if waiting waiting_roomed
        (every_unmap (λ place. get_or with_spots place false ≡ false) (λ (e : Entry). e.home.place) waiting free)

    all_free : AllByRecursion IsAlone waiting → AllByRecursion (λ place. get_or with_spots place false ≡ false) (places_in waiting)
    all_free alone =
        all_mapped (λ place. get_or with_spots place false ≡ false) (λ (e : Entry). e.home.place) waiting
        (all_from_both (IsRoomed seal.sectors) IsAlone
        (λ (e : Entry). get_or with_spots e.home.place false ≡ false) alone_then waiting waiting_roomed alone)

    -- ---- The sectors that are used

    marked_is : marked with_spots (places_in waiting) ≡ used_sectors seal.sectors flat.named pool table
    marked_is =
        ap (λ (places : List ℕ). marked (marked on_pages places) (places_in waiting))
        (ap places_of (sym same_spots) ∙ places_are pool.pointers)
        ∙ used_is seal.sectors flat.named pool table
        (all_from (IsInOrder table seal.sectors seal.group) (λ (p : Pointer). run_length p.key ≡ 1)
        (λ p is. is.ranged.run) pool.pointers sound)
        (all_from (IsRoomed seal.sectors) (λ (e : Entry). run_length e.key ≡ 1) (λ e roomed. roomed.run) waiting waiting_roomed)

    -- ---- The whole

    -- all tests passed
    pub whole_if : (used : List Bool) → Passed used → IsWhole image seal flat × (used ≡ used_sectors seal.sectors flat.named pool table)
    whole_if used passed =
        let took : WasTaken with_spots (places_in waiting) used = free_if_taken
        (places_in waiting) with_spots used waits_within passed.were_taken in
        let alone : AllByRecursion IsAlone waiting = all_alone took.free in (
          record {
            well_formed = record {
              rising = pairs_map (λ p q. comes_before p q ≡ true) (pointer_of image table) flat.slots grounds.together.slots_rising;
              modes = length-map seal.modes mode_in ∙ grounds.modes;
              together = together_if_apart table seal.sectors seal.group pool.pointers sound slots_apart
                  (subst (Pairwise (λ a b. go_apart a b ≡ true)) (sym same_spots)
                  (apart_if_owned spots seal.sectors spots_within passed.owned));
              within = all_from (IsInOrder table seal.sectors seal.group) (LiesWithin seal.sectors seal.group)
                  (λ p is. within_of seal.sectors seal.group p is.ranged) pool.pointers sound;
            };
            matches = record {
              sorted = grounds.sorted;
              homes = homes_if_counted pool table grounds.sorted known
                  (ap (λ (l : List Spot). list_all (is_counted l) (counted_homes table)) same_spots ∙ passed.are_counted);
              waiting = all_from IsAlone (λ (e : Entry). AllByRecursion (IsApartFrom e) pool.pointers) (λ e is. is.pointers) waiting alone;
              apart = waits_apart took.differ;
            };
            homes = passed.homes;
            references = passed.references;
            pages = passed.pages;
            pointers_clear = clear_if passed.are_clear;
            waiting_clear = all_from IsAlone (λ (e : Entry). IsClear flat.named e.home.place) (λ e is. is.page) waiting alone;
          },
          took.used_then ∙ marked_is,
        )

    -- what is whole passes all tests
    pub passed_if : IsWhole image seal flat → Passed (marked with_spots (places_in waiting))
    passed_if whole = record {
      homes = whole.homes;
      references = whole.references;
      pages = whole.pages;
      are_counted = ap (λ (l : List Spot). list_all (is_counted l) (counted_homes table)) (sym same_spots)
          ∙ counted_if_homes pool table grounds.sorted known whole.matches.homes;
      are_clear = clear_then whole.pointers_clear;
      owned = owned_if_apart spots seal.sectors spots_within
          (subst (Pairwise (λ a b. go_apart a b ≡ true)) same_spots
          (apart_if_together table seal.sectors seal.group pool.pointers sound whole.well_formed.together));
      were_taken = taken_if_free (places_in waiting) with_spots waits_within
          (all_free (all_from_both (λ (e : Entry). IsClear flat.named e.home.place)
          (λ (e : Entry). AllByRecursion (IsApartFrom e) pool.pointers) IsAlone
          (λ e clear apart. record { page = clear; pointers = apart }) waiting whole.waiting_clear whole.matches.waiting))
          (waits_differ whole.matches.apart);
    }
