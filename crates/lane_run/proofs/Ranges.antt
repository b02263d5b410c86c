-- What holds of a group so far whatever the disk tells: its lists are as long as its writes allow, and its numbers are in their ranges.
use Rattle.std.proofs.Common.{◌≡◌, ◌⊎◌, ℕ, ◌+◌, ◌^◌, ◌<◌, ◌≤◌, ◌==◌, ◌||◌, Bool, true, false, cond, List, [], ◌∷◌, ◌++◌, length, take}
use Rattle.std.proofs.Common.{get_or, Some, None, Option, refl, sym, ap, subst, zero, suc, ◌∙◌, arith, length-append, ⊎_elim}
use Rattle.std.specs.Prelude.{slice_index_or, if◌then◌else◌}
use Rattle.std.specs.List.{AllByRecursion, list_any, IsDistinct}
use Rattle.std.proofs.Math.Dec.{eqb}
use Rattle.std.proofs.lemmas.Bool.{cases_lt}
use Rattle.std.proofs.lemmas.List.{map-append, take_more}
use Rattle.ddt_entry.specs.declared.key.Key.{Key}
use Rattle.ddt_entry.specs.declared.entry.Home.{Home}
use Rattle.ddt_entry.specs.declared.entry.Entry.{Entry}
use Rattle.ddt_entry.specs.Spelling.{IsKeyLength, KeyFits}
use Rattle.grant_book.specs.Sectors.{AreFirstFree}
use Rattle.grant_book.proofs.FreeLaws.{found-distinct}
use Rattle.pool_model.specs.Pool.{Mark, plain, tracked, loose, since_of, is_tracked}
use Rattle.pool_model.specs.Table.{found, entry_at}
use Rattle.pool_model.specs.Plain.{to_write}
use Rattle.pool_model.specs.Mirrors.{Stored}
use Rattle.pool_model.specs.Command.{Spot, nowhere, at_home, at_fresh, Row, uses_table, pointer_at}
use Rattle.pool_model.specs.declared.closed.SlotChange.{SlotChange}
use Rattle.pool_model.proofs.Lists.{all_from}
use Rattle.pool_model.proofs.Members.{clash}
use Rattle.table_state.specs.Closing.{block_places}
use Rattle.table_state.specs.Pools.{Held, slots_after}
use Rattle.table_state.specs.Sealed.{ChangesSlotWithin}
use Rattle.table_state.specs.Sound.{IsSound}
use Rattle.slot_table.specs.declared.slot.SlotRecord.{SlotRecord}
use Rattle.table_state.proofs.SlotCounts.{length-rising}
use Rattle.table_state.proofs.SlotLaws.{is_slot-true}
use Rattle.table_state.proofs.SlotsAfter.{rising_after, within_after, within_later}
use Rattle.table_state.specs.Slots.{slot_of, kept_of}
use Rattle.table_state.proofs.UnusedOf.{found_unused}
use Rattle.pool_model.proofs.Sorted.{all_put}
use Rattle.pool_model.proofs.TablePuts.{entries_put}
use Rattle.lane_run.specs.Live.{Live, or_below, home_here, first_mode, is_taken, write_of, put_at, with_first, brought, shared, after_row, IsHomeOf, IsReady, IsSince}
use Rattle.lane_run.proofs.Growing.{one_slot_more}
use Rattle.lane_run.proofs.Places.{IsNew}
use Rattle.lane_run.proofs.Openings.{entry_has, found_within}
use Rattle.pool_model.proofs.Loops.{all_push}

-- the slots of the pool with the group's changes so far
abbrev pub slots_now : Held → Live → List SlotRecord
slots_now held live = slots_after live.slots held.slots

-- a home's numbers are in their ranges, and it counts at most so many pointers
pub record IsCounted (sectors group most : ℕ) (home : Home) : Type 0 where
  pub start : 32 ≤ home.place
  pub end : home.place < sectors
  pub born : 1 ≤ home.birth
  pub birth : home.birth ≤ group
  pub since : home.since < 2 ^ 40
  pub count : home.count ≤ most

-- what so many writes have brought: slots, blocks at these places, keys and homes
pub record HasBrought (held : Held) (places : List ℕ) (start i : ℕ) (live : Live) : Type 0 where
  pub slots_few : length live.slots ≤ i
  pub slots_within : AllByRecursion (ChangesSlotWithin held.sectors (held.group + 1)) live.slots
  pub slots_more : length held.slots ≤ length (slots_now held live)
  pub blocks_few : length live.contents ≤ i
  pub places_are : block_places live.contents ≡ take (length live.contents) places
  pub behind : AllByRecursion (λ stored. 32 ≤ stored.place) live.contents
  pub on_disk : AllByRecursion (λ stored. stored.place < held.sectors) live.contents
  pub blocks : AllByRecursion (λ stored. length stored.bytes ≤ 4096) live.contents
  pub keys_few : live.keys ≤ start + i
  pub homes : AllByRecursion (λ e. IsCounted held.sectors (held.group + 1) (length (slots_now held live)) e.home) live.homes

-- after so many writes
pub record IsRanged (held : Held) (places : List ℕ) (start i : ℕ) (live : Live) : Type 0 where
  pub each : length live.replies ≡ i
  pub named : AllByRecursion (λ key. IsKeyLength key.len) live.named
  pub brought : HasBrought held places start i live

-- ---- The homes

-- a home that the table finds
pub table_counted : (held : Held) (most : ℕ) → IsSound held → length held.slots ≤ most → (key : Key) (home : Home)
    → found held.table key ≡ Some home → IsCounted held.sectors (held.group + 1) most home
table_counted held most sound more key home is =
    let within = found_within held.sectors held.group held.table key home sound.within is in
    record {
      start = within.start;
      end = within.end;
      born = within.born;
      birth = omega (arith, within.birth);
      since = within.since;
      count = omega (arith, sound.counts key home is, more);
    }

-- a home that is found so far
pub home_counted : (held : Held) (places : List ℕ) (start i : ℕ) (live : Live) → IsSound held → HasBrought held places start i live
    → (key : Key) (home : Home) → home_here held.table live.homes key ≡ Some home
    → IsCounted held.sectors (held.group + 1) (length (slots_now held live)) home
home_counted held places start i live sound brought key home is = by_entry (entry_at key live.homes) refl is
  where
    Counted : Home → Type 0
    Counted h = IsCounted held.sectors (held.group + 1) (length (slots_now held live)) h

    by_entry : (o : Option Home) → entry_at key live.homes ≡ o → or_below (found held.table key) o ≡ Some home → Counted home
    by_entry None there gives = table_counted held (length (slots_now held live)) sound brought.slots_more key home gives
    by_entry (Some h) there gives =
        let same : h ≡ home = cc gives in
        subst Counted same (entry_has Counted key live.homes h brought.homes there)

-- the slots are few
pub slots_bound : (held : Held) (places : List ℕ) (start i : ℕ) (live : Live) → IsSound held → HasBrought held places start i live
    → length (slots_now held live) ≤ 1048576
slots_bound held places start i live sound brought =
    length-rising held.sectors (held.group + 1) (slots_now held live)
    (within_after held.sectors (held.group + 1) live.slots held.slots brought.slots_within
    (within_later held.sectors held.group (held.group + 1) (omega arith) held.slots sound.slots_within))
    (rising_after live.slots held.slots sound.slots_rising)

pub is_ready : (held : Held) (sectors : ℕ) (places : List ℕ) (start i : ℕ) (live : Live) → IsSound held → held.sectors ≤ sectors
    → start < 2 ^ 62 → i ≤ 65536 → IsRanged held places start i live → IsReady held sectors live
is_ready held sectors places start i live sound on_disk few small ranged = record {
  homes = λ key home is.
      let counted = home_counted held places start i live sound ranged.brought key home is in
      (omega (arith, on_disk, counted.end), omega (arith, counted.count, slots_bound held places start i live sound ranged.brought));
  keys = omega (arith, ranged.brought.keys_few, few, small);
  blocks = ranged.brought.blocks;
}

-- ---- The next fresh place

at_each : {X : Type 0} (P : X → Type 0) (xs : List X) (n : ℕ) (d : X) → n < length xs → AllByRecursion P xs → P (get_or xs n d)
at_each P [] n d below all = absurd (omega (arith, below))
at_each P (x ∷ xs) zero d below all = all.0
at_each P (x ∷ xs) (suc n) d below all = at_each P xs n d (omega (arith, below)) all.1

not_before : (places : List ℕ) (n d : ℕ) → n < length places → IsDistinct eqb places
    → list_any (λ x. x == get_or places n d) (take n places) ≡ false
unfolding IsDistinct
not_before [] n d below distinct = absurd (omega (arith, below))
not_before (x ∷ xs) zero d below distinct = refl
not_before (x ∷ xs) (suc n) d below distinct =
    ap (λ b. b || list_any (λ y. y == get_or xs n d) (take n xs)) (at_each (λ y. eqb x y ≡ false) xs n d (omega (arith, below)) distinct.0)
    ∙ not_before xs n d (omega (arith, below)) distinct.1

any_places : (contents : List Stored) (place : ℕ)
    → list_any (λ x. x.place == place) contents ≡ list_any (λ x. x == place) (block_places contents)
any_places [] place = refl
any_places (x ∷ xs) place = ap (λ b. (x.place == place) || b) (any_places xs place)

within_used : (used : List Bool) (place : ℕ) → slice_index_or used place true ≡ false → place < length used
within_used [] place free = absurd (cc free)
within_used (b ∷ used) zero free = omega arith
within_used (b ∷ used) (suc place) free = omega (arith, within_used used place free)

module _ (held : Held) (wanted : ℕ) (places : List ℕ) (are_free : AreFirstFree held.used wanted places) where
  pub place_new : (contents : List Stored) (d : ℕ) → length contents < length places → block_places contents ≡ take (length contents) places
      → IsNew held.used contents (get_or places (length contents) d)
  place_new contents d below are = record {
    unused =
        at_each (λ place. slice_index_or held.used place true ≡ false) places (length contents) d below
        (found_unused held.used wanted places are_free);
    no_block =
        any_places contents (get_or places (length contents) d)
        ∙ ap (list_any (λ x. x == get_or places (length contents) d)) are
        ∙ not_before places (length contents) d below (found-distinct held.used wanted places are_free);
  }

  pub place_behind : (d n : ℕ) → n < length places → IsSound held → 32 ≤ get_or places n d
  place_behind d n below sound =
      ⊎_elim
      (λ first. absurd (clash (slice_index_or held.used (get_or places n d) true) (sound.ring (get_or places n d) first)
      (at_each (λ place. slice_index_or held.used place true ≡ false) places n d below (found_unused held.used wanted places are_free))))
      (λ from. from) (cases_lt (get_or places n d) 32)

  pub place_within : (d n : ℕ) → n < length places → IsSound held → get_or places n d < held.sectors
  place_within d n below sound =
      omega (
        arith,
        sound.used_len,
        within_used held.used (get_or places n d)
            (at_each (λ place. slice_index_or held.used place true ≡ false) places n d below
            (found_unused held.used wanted places are_free)),
      )

-- ---- One write more

longer : {X : Type 0} (xs : List X) (x : X) → length (xs ++ x ∷ []) ≡ length xs + 1
longer xs x = length-append xs (x ∷ [])

-- what holds of homes by a bound holds by a higher one
count_more : (sectors group most more : ℕ) → most ≤ more → (es : List Entry) → AllByRecursion (λ e. IsCounted sectors group most e.home) es
    → AllByRecursion (λ e. IsCounted sectors group more e.home) es
count_more sectors group most more le =
    all_from (λ (e : Entry). IsCounted sectors group most e.home) (λ (e : Entry). IsCounted sectors group more e.home)
    (λ e was. record {
      start = was.start;
      end = was.end;
      born = was.born;
      birth = was.birth;
      since = was.since;
      count = omega
          (arith, was.count, le);
    })

one_or_none : (b : Bool) → cond b 1 0 ≤ 1
one_or_none true = omega arith
one_or_none false = omega arith

-- what a write is: its slot is one of the lane, and its key has a length and fits its fields
pub record IsKeyed (slot : ℕ) (key : Key) : Type 0 where
  pub slot_few : slot < 65536
  pub long : IsKeyLength key.len
  pub fits : KeyFits key

-- a write's pointer to this place is in its ranges
brought_within : (held : Held) → IsSound held → (slot : ℕ) (key : Key) (content : List ℕ) → IsKeyed slot key
    → (place birth : ℕ) (mark : Mark)
    → 32 ≤ place → place < held.sectors → 1 ≤ birth → birth ≤ held.group + 1
    → ChangesSlotWithin held.sectors (held.group + 1) (brought slot content key place birth mark)
brought_within held sound slot key content keyed place birth mark start end born late = record {
  lane = omega arith;
  slot = omega (arith, keyed.slot_few);
  pointer = (
    is_slot-true held.sectors (held.group + 1) made (record {
      lane = omega arith;
      slot = omega (arith, keyed.slot_few);
      len = keyed.long;
      place = (start, end);
      birth = (born, late);
    }),
    record {
      lane = omega arith;
      slot = omega (arith, keyed.slot_few);
      key = keyed.fits;
      place = omega (arith, end, sound.few);
      birth = omega (arith, late, sound.last);
    },
  );
}
  where
    made : SlotRecord
    made = slot_of (pointer_at (write_of slot content) key content place birth mark)

module _ (held : Held) (places : List ℕ) (start i : ℕ) (live : Live) (was : HasBrought held places start i live)
    (sound : IsSound held) where
  abbrev Counted : ℕ → Home → Type 0
  Counted most home = IsCounted held.sectors (held.group + 1) most home

  -- nothing was brought
  still : HasBrought held places start (i + 1) live
  still = record {
    slots_few = omega (arith, was.slots_few);
    slots_within = was.slots_within;
    slots_more = was.slots_more;
    blocks_few = omega (arith, was.blocks_few);
    places_are = was.places_are;
    behind = was.behind;
    on_disk = was.on_disk;
    blocks = was.blocks;
    keys_few = omega (arith, was.keys_few);
    homes = was.homes;
  }

  module _ (moment slot : ℕ) (early : moment < 2 ^ 40) (key : Key) (content : List ℕ) (keyed : IsKeyed slot key)
      (empty : is_taken held live slot ≡ false) where
    -- a pointer at a home that the key has
    at_home_brought : (place : ℕ) (home : Home) (mark : Mark) → home_here held.table live.homes key ≡ Some home
        → (since_of mark ≡ moment) ⊎ (since_of mark ≡ home.since)
        → HasBrought held places start (i + 1) (put_at (held.group + 1) place slot key content live (at_home home mark))
    at_home_brought place home mark is since =
        let counted = home_counted held places start i live sound was key home is in
        let change : SlotChange = brought slot content key home.place home.birth mark in
        let more : length (slots_after (live.slots ++ change ∷ []) held.slots) ≡ length (slots_now held live) + 1 =
        one_slot_more held live change
        (kept_of (pointer_at (write_of slot content) key content home.place home.birth mark)) refl refl empty in
        let most : ℕ = length (slots_after (live.slots ++ change ∷ []) held.slots) in
        record {
          slots_few = omega (arith, was.slots_few, longer live.slots change);
          slots_within =
              all_push (ChangesSlotWithin held.sectors (held.group + 1)) live.slots change was.slots_within
              (brought_within held sound slot key content keyed home.place home.birth mark counted.start counted.end counted.born
              counted.birth);
          slots_more = omega (arith, was.slots_more, more);
          blocks_few = omega (arith, was.blocks_few);
          places_are = was.places_are;
          behind = was.behind;
          on_disk = was.on_disk;
          blocks = was.blocks;
          keys_few = omega (arith, was.keys_few, one_or_none (home.count == 0));
          homes =
              all_put entries_put (λ e. Counted most e.home) (shared key home mark) live.homes
              (record {
                start = counted.start;
                end = counted.end;
                born = counted.born;
                birth = counted.birth;
                since = ⊎_elim (λ now. omega (arith, now, early)) (λ old. omega (arith, old, counted.since)) since;
                count = omega (arith, counted.count, more);
              })
              (count_more held.sectors (held.group + 1) (length (slots_now held live)) most (omega (arith, more)) live.homes was.homes);
        }

    -- a pointer at the next fresh place
    at_fresh_brought : (place : ℕ) (mark : Mark) → length content ≤ 4096 → 32 ≤ place → place < held.sectors
        → length live.contents < length places → place ≡ get_or places (length live.contents) place → since_of mark ≤ moment
        → HasBrought held places start (i + 1) (put_at (held.group + 1) place slot key content live (at_fresh mark))
    at_fresh_brought place mark fits from within below is since =
        let change : SlotChange = brought slot content key place (held.group + 1) mark in
        let more : length (slots_after (live.slots ++ change ∷ []) held.slots) ≡ length (slots_now held live) + 1 =
        one_slot_more held live change
        (kept_of (pointer_at (write_of slot content) key content place (held.group + 1) mark)) refl refl empty in
        let most : ℕ = length (slots_after (live.slots ++ change ∷ []) held.slots) in
        let stored : Stored = record { place = place; bytes = content } in
        let before : AllByRecursion (λ e. Counted most e.home) live.homes =
        count_more held.sectors (held.group + 1) (length (slots_now held live)) most (omega (arith, more)) live.homes was.homes in
        record {
          slots_few = omega (arith, was.slots_few, longer live.slots change);
          slots_within =
              all_push (ChangesSlotWithin held.sectors (held.group + 1)) live.slots change was.slots_within
              (brought_within held sound slot key content keyed place (held.group + 1) mark from within (omega arith) (omega arith));
          slots_more = omega (arith, was.slots_more, more);
          blocks_few = omega (arith, was.blocks_few, longer live.contents stored);
          places_are =
              map-append (λ (x : Stored). x.place) live.contents (stored ∷ [])
              ∙ ap (λ l. l ++ place ∷ []) was.places_are
              ∙ ap (λ x. take (length live.contents) places ++ x ∷ []) is
              ∙ sym (take_more places (length live.contents) place below)
              ∙ ap (λ n. take n places) (sym (longer live.contents stored));
          behind = all_push (λ (x : Stored). 32 ≤ x.place) live.contents stored was.behind from;
          on_disk = all_push (λ (x : Stored). x.place < held.sectors) live.contents stored was.on_disk within;
          blocks = all_push (λ (x : Stored). length x.bytes ≤ 4096) live.contents stored was.blocks fits;
          keys_few = omega (arith, was.keys_few, one_or_none (is_tracked mark));
          homes = by_mark most more before mark since;
        }
      where
        by_mark : (most : ℕ) → most ≡ length (slots_now held live) + 1 → AllByRecursion (λ e. Counted most e.home) live.homes
            → (m : Mark) → since_of m ≤ moment → AllByRecursion (λ e. Counted most e.home)
            (with_first key place (held.group + 1) m live.homes)
        by_mark most more before plain at = before
        by_mark most more before (tracked since) at =
            all_put entries_put (λ e. Counted most e.home)
            (record { key = key; home = record { place = place; birth = held.group + 1; since = since; count = 1 } })
            live.homes (record {
              start = from;
              end = within;
              born = omega arith;
              birth = omega arith;
              since = omega (arith, at, early);
              count = omega (arith, more);
            })
            before
        by_mark most more before loose at = before

-- ---- A whole write

-- the fresh place of a write: the next of these, behind the ring and on the disk
pub record IsNext (held : Held) (places : List ℕ) (live : Live) (place : ℕ) : Type 0 where
  pub below : length live.contents < length places
  pub place_is : place ≡ get_or places (length live.contents) place
  pub start : 32 ≤ place
  pub end : place < held.sectors

replies_put : (number place slot : ℕ) (key : Key) (content : List ℕ) (live : Live) (spot : Spot)
    → (put_at number place slot key content live spot).replies ≡ live.replies
replies_put number place slot key content live nowhere = refl
replies_put number place slot key content live (at_home home mark) = refl
replies_put number place slot key content live (at_fresh mark) = refl

named_put : (number place slot : ℕ) (key : Key) (content : List ℕ) (live : Live) (spot : Spot)
    → (put_at number place slot key content live spot).named ≡ live.named
named_put number place slot key content live nowhere = refl
named_put number place slot key content live (at_home home mark) = refl
named_put number place slot key content live (at_fresh mark) = refl

not_true : (b : Bool) → (b ≡ true → ⊥) → b ≡ false
not_true true no_way = absurd (no_way refl)
not_true false no_way = refl

module _ (held : Held) (places : List ℕ) (start i : ℕ) (live : Live) (ranged : IsRanged held places start i live)
    (sound : IsSound held) where
  module _ (moment : ℕ) (early : moment < 2 ^ 40) (slot : ℕ) (key : Key) (content : List ℕ) (keyed : IsKeyed slot key)
      (fits : length content ≤ 4096) (place : ℕ) (next : IsNext held places live place) where
    spot_brought : (spot : Spot) → IsHomeOf (home_here held.table live.homes key) spot → IsSince moment spot
        → (is_taken held live slot ≡ true → spot ≡ nowhere)
        → HasBrought held places start (i + 1) (put_at (held.group + 1) place slot key content live spot)
    spot_brought nowhere home_is since empty = still held places start i live ranged.brought sound
    spot_brought (at_home home mark) home_is since empty =
        at_home_brought held places start i live ranged.brought sound moment slot early key content keyed
        (not_true (is_taken held live slot)
        (λ taken. let bad : at_home home mark ≡ nowhere = empty taken in cc)) place home mark home_is since
    spot_brought (at_fresh mark) home_is since empty =
        at_fresh_brought held places start i live ranged.brought sound moment slot early key content keyed
        (not_true (is_taken held live slot) (λ taken. let bad : at_fresh mark ≡ nowhere = empty taken in cc)) place mark
        fits next.start next.end next.below next.place_is since

    pub row_ranged : (chosen : Row) → IsHomeOf (home_here held.table live.homes key) chosen.spot → IsSince moment chosen.spot
        → (is_taken held live slot ≡ true → chosen.spot ≡ nowhere) → IsRanged held places start (i + 1)
        (after_row held place slot key content live chosen)
    row_ranged chosen home_is since empty =
        let put : Live = put_at (held.group + 1) place slot key content live chosen.spot in
        let later = spot_brought chosen.spot home_is since empty in
        record {
          each =
              longer put.replies (to_write chosen.answer)
              ∙ ap (λ rs. length rs + 1) (replies_put (held.group + 1) place slot key content live chosen.spot)
              ∙ ap (λ n. n + 1) ranged.each;
          named =
              subst (AllByRecursion (λ k. IsKeyLength k.len))
              (sym (ap (λ keys. with_name keys) (named_put (held.group + 1) place slot key content live chosen.spot)))
              (all_named (uses_table (first_mode held.modes)));
          brought = record {
            slots_few = later.slots_few;
            slots_within = later.slots_within;
            slots_more = later.slots_more;
            blocks_few = later.blocks_few;
            places_are = later.places_are;
            behind = later.behind;
            on_disk = later.on_disk;
            blocks = later.blocks;
            keys_few = later.keys_few;
            homes = later.homes;
          };
        }
      where
        with_name : List Key → List Key
        with_name keys = if uses_table (first_mode held.modes) then keys ++ key ∷ [] else keys

        all_named : (b : Bool) → AllByRecursion (λ k. IsKeyLength k.len) (if b then live.named ++ key ∷ [] else live.named)
        all_named true = all_push (λ (k : Key). IsKeyLength k.len) live.named key ranged.named keyed.long
        all_named false = ranged.named
