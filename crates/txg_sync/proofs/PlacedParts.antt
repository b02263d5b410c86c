-- Free sectors as the places of chains: how they are shared out, and what being free says of each.
use Rattle.std.proofs.Common.{◌≡◌, ℕ, zero, suc, ◌+◌, ◌<◌, ◌≤◌, Bool, true, false, ◌||◌, ◌==◌, List, [], ◌∷◌, ◌++◌, Option, Some, length, get_or, map, take, drop, length-drop, take-append-drop, refl, sym, ap, subst, ◌∙◌, arith}
use Rattle.std.specs.Prelude.{nat_lt, slice_index_or}
use Rattle.std.specs.List.{AllByRecursion, list_any}
use Rattle.std.proofs.lemmas.Bool.{false≢true, ltb-true, or_parts}
use Rattle.std.proofs.lemmas.Bool.Decides.{nat_tests}
use Rattle.std.proofs.lemmas.List.{length-append, length-take}
use Rattle.grant_book.specs.Sectors.{marked, AreFirstFree, FindsFree}
use Rattle.grant_book.proofs.FreeLaws.{IsFree, found-free, found-distinct}
use Rattle.grant_book.proofs.MarkLaws.{length-marked, marked-at}
use Rattle.page_tree.specs.ChainWrites.{pages_for, AreOpen}
use Rattle.page_tree.proofs.OpenPlaces.{IsOpen, open_places-from}
use Rattle.pool_model.specs.Mirrors.{Stored}
use Rattle.reserved_list.specs.Listed.{Listed}
use Rattle.table_state.specs.Sealed.{ChainPart, places_in}
use Rattle.pool_model.proofs.Lists.{all_from}
use Rattle.table_state.specs.Closing.{pages_of, block_places}
use Rattle.table_state.proofs.RoomLaws.{pages_of-cons}
use Rattle.txg_sync.specs.Placing.{parts_of, ArePlaced}

-- ---- How many pages

-- the pages of some lists and of the next one are among those of all
pub pages_within_all : (lists : List (Listed (List ℕ))) (i : ℕ) (records : Listed (List ℕ)) → i < length lists
    → records ≡ get_or lists i records
    → pages_of (map (λ l. l.items) (take i lists)) + pages_for (length records.items) ≤ pages_of (map (λ l. l.items) lists)
pages_within_all [] i records inside is = absurd (omega arith)
pages_within_all (first ∷ lists) zero records inside is =
    let same : pages_for (length records.items) ≡ pages_for (length first.items) = ap
    (λ (l : Listed (List ℕ)). pages_for (length l.items)) is in
    let more = pages_of-cons first.items (map (λ (l : Listed (List ℕ)). l.items) lists) in
    omega (arith, same, more)
pages_within_all (first ∷ lists) (suc i) records inside is =
    let rest = pages_within_all lists i records (omega arith) is in
    let whole = pages_of-cons first.items (map (λ (l : Listed (List ℕ)). l.items) lists) in
    let front = pages_of-cons first.items (map (λ (l : Listed (List ℕ)). l.items) (take i lists)) in
    omega (arith, rest, whole, front)

-- chains have as many places as their records take pages
pub places_as_pages : (parts : List ChainPart)
    → AllByRecursion (λ (part : ChainPart). length part.places ≡ pages_for (length part.records)) parts
    → length (places_in parts) ≡ pages_of (map (λ (part : ChainPart). part.records) parts)
places_as_pages [] pages = refl
places_as_pages (part ∷ parts) pages =
    let rest = places_as_pages parts pages.1 in
    let more = pages_of-cons part.records (map (λ (p : ChainPart). p.records) parts) in
    let here : length part.places ≡ pages_for (length part.records) = pages.0 in
    let both : length (part.places ++ places_in parts) ≡ length part.places + length (places_in parts) = length-append part.places
    (places_in parts) in
    both ∙ omega (arith, rest, more, here)

-- ---- Places shared out

-- each chain has its records
pub records_of_parts : (lists : List (List (List ℕ))) (places : List ℕ)
    → map (λ (part : ChainPart). part.records) (parts_of lists places) ≡ lists
records_of_parts [] places = refl
records_of_parts (records ∷ lists) places = ap (λ (rest : List (List (List ℕ))). records ∷ rest)
    (records_of_parts lists (drop (pages_for (length records)) places))

-- where there are as many places as pages, each page has one
pub pages_of_parts : (lists : List (List (List ℕ))) (places : List ℕ) → length places ≡ pages_of lists
    → AllByRecursion (λ (part : ChainPart). length part.places ≡ pages_for (length part.records)) (parts_of lists places)
pages_of_parts [] places count = tt
pages_of_parts (records ∷ lists) places count =
    let more = pages_of-cons records lists in
    (omega (arith, more, count, length-take (pages_for (length records)) places), pages_of_parts lists (drop (pages_for (length records)) places) (left more))
  where
    left : pages_of (records ∷ lists) ≡ pages_for (length records) + pages_of lists
        → length (drop (pages_for (length records)) places) ≡ pages_of lists
    left more = omega (arith, more, count, length-drop (pages_for (length records)) places)

-- and no place is left over
pub places_of_parts : (lists : List (List (List ℕ))) (places : List ℕ) → length places ≡ pages_of lists
    → places_in (parts_of lists places) ≡ places
places_of_parts [] [] count = refl
places_of_parts [] (place ∷ places) count = absurd (omega (arith, count))
places_of_parts (records ∷ lists) places count =
    ap (λ (behind : List ℕ). take (pages_for (length records)) places ++ behind)
    (places_of_parts lists (drop (pages_for (length records)) places)
    (omega (arith, pages_of-cons records lists, count, length-drop (pages_for (length records)) places)))
    ∙ take-append-drop (pages_for (length records)) places

-- ---- What being free says

-- a block lies at a place where its place is among those of all
at_block : (sector : ℕ) (contents : List Stored)
    → list_any (λ place. place == sector) (block_places contents) ≡ list_any (λ (stored : Stored). stored.place == sector) contents
at_block sector [] = refl
at_block sector (stored ∷ contents) = ap (λ b. (stored.place == sector) || b) (at_block sector contents)

module _ (used : List Bool) (contents : List Stored) where
  -- a place that is free beside the blocks
  record IsVacant (place : ℕ) : Type 0 where
    below : place < length used
    unused : slice_index_or used place true ≡ false
    no_block : list_any (λ (stored : Stored). stored.place == place) contents ≡ false

  vacant_from : (place : ℕ) → IsFree (marked used (block_places contents)) place → IsVacant place
  vacant_from place free =
      let below : place < length used = omega (arith, free.within, length-marked (block_places contents) used) in
      let both = or_parts (get_or used place true) (list_any (λ p. p == place) (block_places contents))
      (sym (marked-at (block_places contents) used place true below) ∙ free.free true) in
      record { below = below; unused = both.0; no_block = sym (at_block place contents) ∙ both.1 }

  module _ (ring : (sector : ℕ) → sector < 32 → slice_index_or used sector true ≡ true) where
    -- such a place is outside the ring
    vacant_open : (place : ℕ) → IsVacant place → IsOpen (length used) [] place
    vacant_open place vacant = record { from = by_order (nat_lt place 32) refl; below = vacant.below; fresh = refl }
      where
        by_order : (b : Bool) → nat_lt place 32 ≡ b → 32 ≤ place
        by_order true before = absurd (false≢true (sym vacant.unused ∙ ring place (ltb-true place 32 before)))
        by_order false behind = grind (arith, nat_tests)

    -- chains to which the first free sectors were shared out are placed
    pub placed : (lists : List (List (List ℕ))) (places : List ℕ) (wanted : ℕ) (parts : List ChainPart)
        → AreFirstFree (marked used (block_places contents)) wanted places → wanted ≡ pages_of lists → parts ≡ parts_of lists places
        → ArePlaced used contents lists parts
    placed lists places wanted parts found count shared =
        subst (ArePlaced used contents lists) (sym shared) (record {
          spelled = records_of_parts lists places;
          pages = pages_of_parts lists places as_many;
          places_open = subst (AreOpen (length used) []) (sym all)
              (open_places-from (length used) [] places (all_from IsVacant (IsOpen (length used) []) vacant_open places vacant)
              (found-distinct (marked used (block_places contents)) wanted places found));
          unused = subst (AllByRecursion (λ place. slice_index_or used place true ≡ false)) (sym all)
              (all_from IsVacant (λ place. slice_index_or used place true ≡ false) (λ place is. is.unused) places vacant);
          no_block = subst (AllByRecursion (λ place. list_any (λ (stored : Stored). stored.place == place) contents ≡ false)) (sym all)
              (all_from IsVacant (λ place. list_any (λ (stored : Stored). stored.place == place) contents ≡ false)
              (λ place is. is.no_block) places vacant);
        })
      where
        as_many : length places ≡ pages_of lists
        as_many = found.count ∙ count

        all : places_in (parts_of lists places) ≡ places
        all = places_of_parts lists places as_many

        vacant : AllByRecursion IsVacant places
        vacant = all_from (IsFree (marked used (block_places contents))) IsVacant vacant_from places
            (found-free (marked used (block_places contents)) wanted places found)

-- what a search found in a set in which the blocks were marked, shared out
pub placed_by_steps : (used taken : List Bool) (contents : List Stored)
    (ring : (sector : ℕ) → sector < 32 → slice_index_or used sector true ≡ true) (lists seen : List (Listed (List ℕ))) (wanted : ℕ)
    (found : Option (Listed ℕ)) (places : Listed ℕ)
    (given : List ℕ) (parts : List ChainPart)
    → taken ≡ marked used (block_places contents) → seen ≡ lists → wanted ≡ pages_of (map (λ l. l.items) seen)
    → FindsFree taken wanted found → found ≡ Some places → given ≡ places.items → parts ≡ parts_of (map (λ l. l.items) lists) given
    → ArePlaced used contents (map (λ l. l.items) lists) parts
placed_by_steps used taken contents ring lists seen wanted found places given parts marks same count finds is named shared =
    placed used contents ring (map (λ (l : Listed (List ℕ)). l.items) lists) places.items wanted parts
    (subst (λ (ts : List Bool). AreFirstFree ts wanted places.items) marks (subst (FindsFree taken wanted) is finds))
    (count ∙ ap (λ (ls : List (Listed (List ℕ))). pages_of (map (λ (l : Listed (List ℕ)). l.items) ls)) same)
    (shared ∙ ap (parts_of (map (λ (l : Listed (List ℕ)). l.items) lists)) named)
