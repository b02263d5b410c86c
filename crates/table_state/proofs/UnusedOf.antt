-- A sector that a pool in memory doesn't use is free for a run of one sector, and so are the first such ones together.
use Rattle.std.proofs.Common.{◌≡◌, ◌≢◌, ℕ, ◌+◌, ◌<◌, Bool, true, false, ◌||◌, ◌==◌, inl, inr, ⊎_elim, List, [], ◌∷◌, map, take, drop, take-append-drop, sym, ap, subst, ◌∙◌, eqb, eq-eqb, arith}
use Rattle.std.specs.Prelude.{nat_lt, slice_index_or}
use Rattle.std.specs.List.{AllByRecursion, IsDistinct, list_any}
use Rattle.std.proofs.lemmas.Bool.{or_parts, and_from, lt-ltb, le-leb, ltb-false, cases_lt}
use Rattle.std.proofs.lemmas.List.{get_or_past}
use Rattle.std.proofs.lemmas.List.FromFn.{get_or-map-range_with_len}
use Rattle.ddt_entry.specs.declared.entry.Entry.{Entry}
use Rattle.disk_model.specs.Images.{Image}
use Rattle.grant_book.specs.Sectors.{AreFirstFree}
use Rattle.grant_book.proofs.FreeLaws.{found-free, found-distinct, IsFree as IsFreeSector}
use Rattle.pool_model.specs.Pool.{Pool, Pointer, Pairwise, IsApart, run_length}
use Rattle.pool_model.specs.Space.{is_used, lies_in, used_sectors}
use Rattle.pool_model.specs.Table.{TableState, waiting_in}
use Rattle.pool_model.specs.Group.{Standing, IsFree, AreFresh}
use Rattle.table_state.specs.Over.{StandsOver}
use Rattle.table_state.specs.Pools.{Held}
use Rattle.pool_model.proofs.Lists.{all_from, all_take, pairs_front}
use Rattle.pool_model.proofs.Members.{clash}
use Rattle.table_state.proofs.UsedLaws.{length-used_sectors}

-- ---- Runs that don't meet

-- two places are apart as runs of one sector
pub places_apart : (place other : ℕ) → place ≢ other → IsApart place 1 other 1
places_apart place other differ = ⊎_elim (λ before. inl (omega arith)) (λ behind. inr (omega arith)) (cases_lt place other)

-- a sector that doesn't lie in a run is apart from it
run_apart : (place start len : ℕ) → lies_in place start len ≡ false → IsApart place 1 start len
run_apart place start len outside =
    ⊎_elim
    (λ before. inl (omega arith))
    (λ from. ⊎_elim (λ inside. absurd (clash (lies_in place start len)
    (and_from _ _ (le-leb start place from) (lt-ltb place (start + len) inside)) outside)) (λ behind. inr behind)
    (cases_lt place (start + len)))
    (cases_lt place start)

page_apart : (place page : ℕ) → (page == place) ≡ false → IsApart place 1 page 1
page_apart place page other = places_apart place page (λ same. clash (page == place) (eq-eqb page place (sym same)) other)

-- where no element passes a test each fails it
pub each_fails : {X : Type 0} (test : X → Bool) (xs : List X) → list_any test xs ≡ false → AllByRecursion (λ x. test x ≡ false) xs
each_fails test [] none = tt
each_fails test (x ∷ xs) none =
    let parts = or_parts (test x) (list_any test xs) none in
    (parts.0, each_fails test xs parts.1)

-- ---- What isn't used

-- a sector that isn't used is on the disk, and nothing names it
pub unused_at : (sectors : ℕ) (pages : List ℕ) (pool : Pool) (table : TableState) (place : ℕ)
    → slice_index_or (used_sectors sectors pages pool table) place true ≡ false
    → (place < sectors) × (is_used pages pool table place ≡ false)
unused_at sectors pages pool table place unused =
    ⊎_elim
    (λ within. (
      within,
      sym (get_or-map-range_with_len (is_used pages pool table) 0 sectors place place true within (omega arith))
          ∙ unused,
    ))
    (λ past. absurd (clash (slice_index_or (used_sectors sectors pages pool table) place true)
    (get_or_past (used_sectors sectors pages pool table) place true
    (omega (arith, past, length-used_sectors sectors pages pool table))) unused))
    (cases_lt place sectors)

-- so it is free
free_by : (s : Standing) (place : ℕ) → place < s.sectors → is_used s.pages s.pool s.table place ≡ false → IsFree s place 1
free_by s place within unused =
    let pointed = λ (p : Pointer). lies_in place p.place (run_length p.key) in
    let kept = λ (entry : Entry). lies_in place entry.home.place (run_length entry.key) in
    let paged = λ (page : ℕ). page == place in
    let waits = or_parts (nat_lt place 32 || list_any paged s.pages || list_any pointed s.pool.pointers)
    (list_any kept (waiting_in s.table)) unused in
    let points = or_parts (nat_lt place 32 || list_any paged s.pages) (list_any pointed s.pool.pointers) waits.0 in
    let first = or_parts (nat_lt place 32) (list_any paged s.pages) points.0 in
    record {
      unnamed = record {
        start = ltb-false place 32 first.0;
        no_pointer =
            all_from (λ (p : Pointer). lies_in place p.place (run_length p.key) ≡ false)
            (λ (p : Pointer). IsApart place 1 p.place (run_length p.key))
            (λ p outside. run_apart place p.place (run_length p.key) outside) s.pool.pointers
            (each_fails pointed s.pool.pointers points.1);
        not_waiting =
            all_from (λ (entry : Entry). lies_in place entry.home.place (run_length entry.key) ≡ false)
            (λ (entry : Entry). IsApart place 1 entry.home.place (run_length entry.key))
            (λ entry outside. run_apart place entry.home.place (run_length entry.key) outside)
            (waiting_in s.table) (each_fails kept (waiting_in s.table) waits.1);
      };
      end = omega (arith, within);
      no_page =
          all_from (λ page. (page == place) ≡ false) (λ page. IsApart place 1 page 1)
          (λ page other. page_apart place page other) s.pages (each_fails paged s.pages first.1);
    }

-- what a pool in memory doesn't use is free where it is what stands
pub unused_free : (image : Image) (held : Held) (s : Standing) → StandsOver image held s → (place : ℕ)
    → slice_index_or held.used place true ≡ false → IsFree s place 1
unused_free image held s over place unused =
    let used_are : held.used ≡ used_sectors s.sectors s.pages s.pool s.table =
    over.is_held.used_are ∙ (λ i. used_sectors (over.sectors i) (over.pages i) s.pool s.table) in
    let at = unused_at s.sectors s.pages s.pool s.table place
    (sym (ap (λ (used : List Bool). slice_index_or used place true) used_are) ∙ unused) in
    free_by s place at.0 at.1

-- ---- The first free places

-- none of the places that were found is used
pub found_unused : (used : List Bool) (wanted : ℕ) (places : List ℕ) → AreFirstFree used wanted places
    → AllByRecursion (λ place. slice_index_or used place true ≡ false) places
found_unused used wanted places found =
    all_from (IsFreeSector used) (λ place. slice_index_or used place true ≡ false) (λ place is. is.free true) places
    (found-free used wanted places found)

distinct_apart : (places : List ℕ) → IsDistinct eqb places → Pairwise (λ a b. IsApart a 1 b 1) places
unfolding IsDistinct
distinct_apart [] distinct = tt
distinct_apart (place ∷ places) distinct = (
  all_from (λ other. eqb place other ≡ false) (λ other. IsApart place 1 other 1)
      (λ other differ. places_apart place other (λ same. clash (eqb place other) (eq-eqb place other same) differ)) places distinct.0,
  distinct_apart places distinct.1,
)

-- places that are free and apart are fresh as runs of one sector
fresh_runs : (is_free : (place len : ℕ) → Type 0) (places : List ℕ) → AllByRecursion (λ place. is_free place 1) places
    → Pairwise (λ a b. IsApart a 1 b 1) places → AreFresh is_free (map (λ place. (place, 1)) places)
fresh_runs is_free places free apart = record { free = each places free; apart = pairs places apart }
  where
    each : (ps : List ℕ) → AllByRecursion (λ place. is_free place 1) ps
        → AllByRecursion (λ (run : ℕ × ℕ). is_free run.0 run.1) (map (λ place. (place, 1)) ps)
    each [] all = tt
    each (p ∷ ps) all = (all.0, each ps all.1)

    behind : (a : ℕ) (ps : List ℕ) → AllByRecursion (λ b. IsApart a 1 b 1) ps
        → AllByRecursion (λ (run : ℕ × ℕ). IsApart a 1 run.0 run.1) (map (λ place. (place, 1)) ps)
    behind a [] all = tt
    behind a (p ∷ ps) all = (all.0, behind a ps all.1)

    pairs : (ps : List ℕ) → Pairwise (λ a b. IsApart a 1 b 1) ps
        → Pairwise (λ (a b : ℕ × ℕ). IsApart a.0 a.1 b.0 b.1) (map (λ place. (place, 1)) ps)
    pairs [] all = tt
    pairs (p ∷ ps) all = (behind p ps all.0, pairs ps all.1)

-- the places that were found are fresh together, and so is each front of them
pub found_fresh : (image : Image) (held : Held) (s : Standing) → StandsOver image held s → (wanted : ℕ) (places : List ℕ)
    → AreFirstFree held.used wanted places → (count : ℕ) → AreFresh (IsFree s) (map (λ place. (place, 1)) (take count places))
found_fresh image held s over wanted places found count =
    fresh_runs (IsFree s) (take count places)
    (all_from (λ place. slice_index_or held.used place true ≡ false) (λ place. IsFree s place 1)
    (λ place unused. unused_free image held s over place unused)
    (take count places) (all_take (λ place. slice_index_or held.used place true ≡ false) count places
    (found_unused held.used wanted places found)))
    (pairs_front (λ a b. IsApart a 1 b 1) (take count places) (drop count places)
    (subst (Pairwise (λ a b. IsApart a 1 b 1)) (sym (take-append-drop count places))
    (distinct_apart places (found-distinct held.used wanted places found))))
