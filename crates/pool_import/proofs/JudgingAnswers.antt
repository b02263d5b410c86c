-- What the one answer says of each image.
use Rattle.std.proofs.Common.{◌≡◌, ℕ, Bool, true, false, ◌&&◌, ◌==◌, List, length, map, replicate, Option, Some, None, refl, sym, ap, subst, ◌∙◌, eq-eqb}
use Rattle.std.specs.Prelude.{sum_by, filter, nat_lt, if◌then◌else◌, IfSome, IfNone, IfOk, Result, Ok, Err}
use Rattle.std.specs.List.{list_all}
use Rattle.std.proofs.lemmas.Bool.{and_parts, eqb-true}
use Rattle.ddt_entry.specs.declared.entry.Entry.{Entry}
use Rattle.disk_model.specs.Images.{Image}
use Rattle.grant_book.specs.Sectors.{marked}
use Rattle.uber_ring.specs.declared.seal.Seal.{Seal}
use Rattle.pool_model.specs.Table.{TableState, waiting_in, entries_found, AreRising, counted_homes, IsTable}
use Rattle.pool_model.specs.Space.{used_sectors}
use Rattle.table_state.specs.Flat.{Flat, table_in, pool_in}
use Rattle.pool_model.proofs.Lists.{pairs_filter}
use Rattle.pool_import.specs.Judged.{counts_hold, pages_used, sectors_taken, judged}
use Rattle.pool_import.specs.Marks.{spot_of, spot_among, sums_agree, is_counted, are_owned, taken, places_of, places_in, is_clear}
use Rattle.pool_import.specs.Whole.{IsWhole}
use Rattle.pool_import.specs.declared.marks.Spot.{Spot}
use Rattle.pool_model.proofs.Finding.{rising_found}
use Rattle.pool_import.proofs.JudgingFound.{IsBefore}
use Rattle.pool_import.proofs.JudgingKeys.{spots_among}
use Rattle.pool_import.proofs.JudgingWhole.{Grounds, Passed, whole_if, passed_if}

-- two tests that hold
and_both : (a b : Bool) → a ≡ true → b ≡ true → (a && b) ≡ true
and_both a b first second = ap (λ x. x && b) first ∙ second

-- what a choice gave
chosen : {X : Type 0} (b : Bool) (o : Option X) (x : X) → (if b then o else None) ≡ Some x → (b ≡ true) × (o ≡ Some x)
chosen true o x is = (refl, is)
chosen false o x is = absurd (cc is)

module _ (seal : Seal) (flat : Flat) (grounds : Grounds seal flat) where
  abbrev table : TableState
  table = table_in seal flat

  abbrev spots : List Spot
  spots = map (spot_of table) flat.slots

  abbrev sums : Bool
  sums = sums_agree seal (counted_homes table) (length flat.named)

  abbrev clear : Bool
  clear = list_all (is_clear (pages_used seal.sectors flat.named)) spots

  abbrev owned : Bool
  owned = are_owned spots 0 (replicate seal.sectors 0) spots

  abbrev then_taken : Option (List Bool)
  then_taken = taken (marked (pages_used seal.sectors flat.named) (places_of spots)) (places_in (waiting_in table))

  -- the sectors are told where all tests passed
  passed_of : (used : List Bool) → judged seal flat table ≡ Some used → Passed seal flat grounds used
  passed_of used is =
      let outer = chosen (counts_hold seal (counted_homes table) spots (length flat.named))
      (sectors_taken seal.sectors flat.named spots (waiting_in table)) used is in
      let counts = and_parts sums (list_all (is_counted spots) (counted_homes table)) outer.0 in
      let pages = and_parts _ (seal.pages == length flat.named) counts.0 in
      let numbers = and_parts (seal.homes == length (counted_homes table)) _ pages.0 in
      let inner = chosen (clear && owned) then_taken used outer.1 in
      let places = and_parts clear owned inner.0 in
      record {
        homes = eqb-true seal.homes (length (counted_homes table)) numbers.0;
        references = eqb-true seal.counts _ numbers.1;
        pages = eqb-true seal.pages (length flat.named) pages.1;
        are_counted = counts.1;
        are_clear = places.0;
        owned = places.1;
        were_taken = inner.1;
      }

  -- where all tests passed the sectors are told
  told_of : (used : List Bool) → Passed seal flat grounds used → judged seal flat table ≡ Some used
  told_of used passed =
      ap (λ b. if b then sectors_taken seal.sectors flat.named spots (waiting_in table) else None)
      (and_both sums _
      (and_both _ (seal.pages == length flat.named)
      (and_both _ (seal.counts == sum_by (λ entry. entry.home.count) (counted_homes table)) (eq-eqb seal.homes _ passed.homes)
      (eq-eqb seal.counts _ passed.references))
      (eq-eqb seal.pages _ passed.pages))
      passed.are_counted)
      ∙ ap (λ b. if b then then_taken else None) (and_both clear owned passed.are_clear passed.owned)
      ∙ passed.were_taken

  -- the answer, over any table that is the image's
  pub whole_where_told : (found : Option (List Bool)) (t : TableState) → t ≡ table → found ≡ judged seal flat t
      → IfSome found (λ used. (image : Image)
      → IsWhole image seal flat × (used ≡ used_sectors seal.sectors flat.named (pool_in image seal flat) table))
  whole_where_told None t same is = tt
  whole_where_told (Some used) t same is = λ image. whole_if seal flat grounds image used
      (passed_of used (sym (is ∙ ap (judged seal flat) same)))

  pub broken_where_none : (found : Option (List Bool)) (t : TableState) → t ≡ table → found ≡ judged seal flat t
      → IfNone found ((image : Image) → IsWhole image seal flat → ⊥)
  broken_where_none None t same is = λ image whole. never _
      (is ∙ ap (judged seal flat) same ∙ told_of _ (passed_if seal flat grounds image whole))
    where
      never : (used : List Bool) → None ≡ Some used → ⊥
      never used none = cc
  broken_where_none (Some used) t same is = tt

-- what follows of each answer follows of a result
ok_weaker : {T E : Type 0} (P Q : T → Type 0) → ((x : T) → P x → Q x) → (result : Result T E) → IfOk result P → IfOk result Q
ok_weaker P Q weaker (Ok x) holds = weaker x holds
ok_weaker P Q weaker (Err e) holds = tt

-- a result that tells sectors tells of a whole image
pub whole_result : {E : Type 0} (seal : Seal) (flat : Flat) (grounds : Grounds seal flat) (t : TableState) → t ≡ table_in seal flat
    → (result : Result (Option (List Bool)) E) → IfOk result (λ found. found ≡ judged seal flat t)
    → IfOk result (λ found. IfSome found
    (λ used. (image : Image)
    → IsWhole image seal flat × (used ≡ used_sectors seal.sectors flat.named (pool_in image seal flat) (table_in seal flat))))
whole_result seal flat grounds t same result told =
    ok_weaker (λ found. found ≡ judged seal flat t)
    (λ found. IfSome found
    (λ used. (image : Image)
    → IsWhole image seal flat × (used ≡ used_sectors seal.sectors flat.named (pool_in image seal flat) (table_in seal flat))))
    (λ found is. whole_where_told seal flat grounds found t same is) result told

-- a result that tells nothing tells of a broken one
pub broken_result : {E : Type 0} (seal : Seal) (flat : Flat) (grounds : Grounds seal flat) (t : TableState) → t ≡ table_in seal flat
    → (result : Result (Option (List Bool)) E) → IfOk result (λ found. found ≡ judged seal flat t)
    → IfOk result (λ found. IfNone found ((image : Image) → IsWhole image seal flat → ⊥))
broken_result seal flat grounds t same result told =
    ok_weaker (λ found. found ≡ judged seal flat t) (λ found. IfNone found ((image : Image) → IsWhole image seal flat → ⊥))
    (λ found is. broken_where_none seal flat grounds found t same is) result told

-- whether a home is found that isn't counted
abbrev pub waits : Entry → Bool
waits entry = entry.home.count == 0

-- what the calls of the judgement have made
pub record Made (seal : Seal) (flat : Flat) (t : TableState) (entries homes : List Entry) (spots : List Spot) (pages : ℕ) : Type 0 where
  pub entries_are : entries ≡ entries_found t
  pub homes_are : homes ≡ filter (λ entry. nat_lt 0 entry.home.count) entries
  pub spots_are : spots ≡ map (spot_among entries) flat.slots
  pub pages_are : pages ≡ length flat.named

module _ (seal : Seal) (flat : Flat) (t : TableState) (sorted : IsTable t) (entries homes : List Entry) (spots : List Spot) (pages : ℕ)
    (made : Made seal flat t entries homes spots pages) where
  all_spots : spots ≡ map (spot_of t) flat.slots
  all_spots = made.spots_are ∙ ap (λ (es : List Entry). map (spot_among es) flat.slots) made.entries_are ∙ spots_among t flat.slots sorted

  all_homes : homes ≡ counted_homes t
  all_homes = made.homes_are ∙ ap (filter (λ (entry : Entry). nat_lt 0 entry.home.count)) made.entries_are

  counts_are : counts_hold seal homes spots pages ≡ counts_hold seal (counted_homes t) (map (spot_of t) flat.slots) (length flat.named)
  counts_are =
      ap (λ (h : List Entry). counts_hold seal h spots pages) all_homes
      ∙ ap (λ (s : List Spot). counts_hold seal (counted_homes t) s pages) all_spots
      ∙ ap (counts_hold seal (counted_homes t) (map (spot_of t) flat.slots)) made.pages_are

  -- the answer where the counts hold, and where they don't
  by_counts : (holds : Bool) → counts_hold seal homes spots pages ≡ holds
      → judged seal flat t ≡ (if holds then sectors_taken seal.sectors flat.named spots (filter waits entries) else None)
  by_counts holds told =
      ap (λ b. if b then sectors_taken seal.sectors flat.named (map (spot_of t) flat.slots) (waiting_in t) else None)
      (sym counts_are ∙ told)
      ∙ ap (λ (s : List Spot). if holds then sectors_taken seal.sectors flat.named s (waiting_in t) else None) (sym all_spots)
      ∙ ap (λ (es : List Entry). if holds then sectors_taken seal.sectors flat.named spots (filter waits es) else None)
      (sym made.entries_are)

  -- nothing is told where the counts don't hold
  pub none_decided : counts_hold seal homes spots pages ≡ false → None ≡ judged seal flat t
  none_decided fails = sym (by_counts false fails)

  -- the places decide, once the counts hold
  pub places_decide : (named : List ℕ) (taken_are : Option (List Bool)) → named ≡ flat.named → counts_hold seal homes spots pages ≡ true
      → taken_are ≡ sectors_taken seal.sectors named spots (filter waits entries) → taken_are ≡ judged seal flat t
  places_decide named taken_are named_are right told =
      told ∙ ap (λ (n : List ℕ). sectors_taken seal.sectors n spots (filter waits entries)) named_are ∙ sym (by_counts true right)

-- the homes of a table rise, and so do those that are counted
pub found_rising : (t : TableState) (entries : List Entry) → IsTable t → entries ≡ entries_found t → AreRising entries
found_rising t entries sorted are = subst AreRising (sym are) (rising_found t sorted)

-- the homes that are counted rise as those that are found do
pub homes_rising : (t : TableState) (entries homes : List Entry) → IsTable t → entries ≡ entries_found t
    → homes ≡ filter (λ entry. nat_lt 0 entry.home.count) entries → AreRising homes
homes_rising t entries homes sorted are homes_are =
    subst AreRising (sym homes_are)
    (pairs_filter IsBefore (λ (entry : Entry). nat_lt 0 entry.home.count) entries (found_rising t entries sorted are))
