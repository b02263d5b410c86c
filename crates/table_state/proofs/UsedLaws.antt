-- The sectors that a pool uses, as marks: those of the ring, of the pages, of the pointers and of the homes that wait.
use Rattle.std.proofs.Common.{◌≡◌, ℕ, ◌<◌, ◌≤◌, Bool, true, false, not, ◌||◌, ◌==◌, List, [], ◌∷◌, Option, length, get_or, map, refl, sym, ap, ◌∙◌, arith}
use Rattle.std.specs.Prelude.{nat_lt, fold, slice_index_or}
use Rattle.std.specs.List.{AllByRecursion, list_any, range_with_len}
use Rattle.std.proofs.lemmas.Bool.{ltb-true, lt-ltb}
use Rattle.std.proofs.lemmas.Bool.Decides.{nat_tests}
use Rattle.std.proofs.lemmas.List.{get_or_past}
use Rattle.std.proofs.lemmas.List.FromFn.{fill_by_all, length-map-range_with_len, get_or-map-range_with_len}
use Rattle.ddt_entry.specs.Changes.{key_in}
use Rattle.ddt_entry.specs.Keys.{key_eq}
use Rattle.ddt_entry.specs.Spelling.{IsKeyLength}
use Rattle.ddt_entry.specs.declared.key.Key.{Key}
use Rattle.ddt_entry.specs.declared.entry.Entry.{Entry}
use Rattle.ddt_entry.specs.declared.entry.Change.{Change}
use Rattle.ddt_entry.specs.declared.entry.Change.TheVariants as changes
use Rattle.disk_model.specs.Images.{Image}
use Rattle.grant_book.specs.Sectors.{marked, ring_used}
use Rattle.grant_book.proofs.MarkLaws.{length-marked, marked-at, length-ring_used, ring_used-at}
use Rattle.pool_model.specs.declared.commands.Mode.{Mode}
use Rattle.pool_model.specs.Mirrors.{Stored}
use Rattle.pool_model.specs.Pool.{Pool, Pointer, run_length}
use Rattle.pool_model.specs.Space.{is_used, lies_in, used_sectors}
use Rattle.pool_model.specs.Table.{TableState, set_found, set_entry, drop_entry, entries_found, waiting_in}
use Rattle.table_state.specs.Flat.{pointer_of}
use Rattle.table_state.specs.Pools.{pool_after, with_blocks}
use Rattle.table_state.specs.SlotRecords.{is_slot}
use Rattle.slot_table.specs.declared.slot.SlotRecord.{SlotRecord}
use Rattle.pool_model.proofs.Lists.{all_from, all_filter}
use Rattle.table_state.proofs.SlotLaws.{is_slot-from}
use Rattle.pool_model.proofs.Sorted.{all_put}
use Rattle.pool_model.proofs.TablePuts.{entries_put}

-- ---- Runs of one sector

-- a key of a length in its range has a run of one sector
pub one_sector : (key : Key) → IsKeyLength key.len → run_length key ≡ 1
one_sector key len = let least = len.0 in let most = len.1 in omega (arith, least, most)

-- a sector lies in a run of one sector where it is its place
lies_in-one : (sector place n : ℕ) → n ≡ 1 → (place == sector) ≡ lies_in sector place n
lies_in-one sector place n one = grind (arith, nat_tests)

-- some place is this sector where the sector lies in some run of one sector
any_run : {X : Type 0} (place_of : X → ℕ) (run : X → ℕ) (sector : ℕ) (xs : List X) → AllByRecursion (λ x. run x ≡ 1) xs
    → list_any (λ place. place == sector) (map place_of xs) ≡ list_any (λ x. lies_in sector (place_of x) (run x)) xs
any_run place_of run sector [] ones = refl
any_run place_of run sector (x ∷ xs) ones =
    ap (λ b. b || list_any (λ place. place == sector) (map place_of xs)) (lies_in-one sector (place_of x) (run x) ones.0)
    ∙ ap (λ b. lies_in sector (place_of x) (run x) || b) (any_run place_of run sector xs ones.1)

-- ---- The marks

module _ (sectors : ℕ) (pages : List ℕ) (pool : Pool) (table : TableState) where
  abbrev places : List ℕ
  places = map (λ (p : Pointer). p.place) pool.pointers

  abbrev waits : List ℕ
  waits = map (λ (entry : Entry). entry.home.place) (waiting_in table)

  abbrev with_pages : List Bool
  with_pages = marked (ring_used sectors) pages

  abbrev with_pointers : List Bool
  with_pointers = marked with_pages places

  length-pages : length with_pages ≡ sectors
  length-pages = length-marked pages (ring_used sectors) ∙ length-ring_used sectors

  length-pointers : length with_pointers ≡ sectors
  length-pointers = length-marked places with_pages ∙ length-pages

  pages-at : (s : ℕ) → s < sectors → get_or with_pages s false ≡ (nat_lt s 32 || list_any (λ page. page == s) pages)
  pages-at s within =
      marked-at pages (ring_used sectors) s false (omega (arith, within, length-ring_used sectors))
      ∙ ap (λ b. b || list_any (λ page. page == s) pages) (ring_used-at sectors s false within)

  module _ (pointers : AllByRecursion (λ p. run_length p.key ≡ 1) pool.pointers)
      (waiting : AllByRecursion (λ entry. run_length entry.key ≡ 1) (waiting_in table)) where
    pointers-at : (s : ℕ) → s < sectors
        → get_or with_pointers s
        false ≡ ((nat_lt s 32 || list_any (λ page. page == s) pages) || list_any
        (λ (p : Pointer). lies_in s p.place (run_length p.key)) pool.pointers)
    pointers-at s within =
        marked-at places with_pages s false (omega (arith, within, length-pages))
        ∙ ap (λ b. b || list_any (λ place. place == s) places) (pages-at s within)
        ∙ ap (λ b. (nat_lt s 32 || list_any (λ page. page == s) pages) || b)
        (any_run (λ (p : Pointer). p.place) (λ (p : Pointer). run_length p.key) s pool.pointers pointers)

    waits-at : (s : ℕ) → s < sectors → get_or (marked with_pointers waits) s false ≡ is_used pages pool table s
    waits-at s within =
        marked-at waits with_pointers s false (omega (arith, within, length-pointers))
        ∙ ap (λ b. b || list_any (λ place. place == s) waits) (pointers-at s within)
        ∙ ap (λ b. ((nat_lt s 32 || list_any (λ page. page == s) pages) || list_any
        (λ (p : Pointer). lies_in s p.place (run_length p.key)) pool.pointers) || b)
        (any_run (λ (entry : Entry). entry.home.place) (λ (entry : Entry). run_length entry.key) s (waiting_in table) waiting)

    -- marks for the ring, the pages, the pointers and the homes that wait are what is used, where each run has one sector
    pub used_is : marked (marked (marked (ring_used sectors) pages) (map (λ p. p.place) pool.pointers))
        (map (λ entry. entry.home.place) (waiting_in table)) ≡ used_sectors sectors pages pool table
    used_is = fill_by_all (is_used pages pool table) (marked with_pointers waits) sectors false
        (length-marked waits with_pointers ∙ length-pointers) waits-at

-- there are as many notes as sectors
pub length-used_sectors : (sectors : ℕ) (pages : List ℕ) (pool : Pool) (table : TableState)
    → length (used_sectors sectors pages pool table) ≡ sectors
length-used_sectors sectors pages pool table = length-map-range_with_len (is_used pages pool table) 0 sectors

-- the sectors of the ring are used, whatever else is
pub ring_is_used : (sectors : ℕ) (pages : List ℕ) (pool : Pool) (table : TableState) (sector : ℕ) → sector < 32
    → slice_index_or (used_sectors sectors pages pool table) sector true ≡ true
ring_is_used sectors pages pool table sector first = by_order (nat_lt sector sectors) refl
  where
    by_order : (b : Bool) → nat_lt sector sectors ≡ b → slice_index_or (used_sectors sectors pages pool table) sector true ≡ true
    by_order true within =
        get_or-map-range_with_len (is_used pages pool table) 0 sectors sector sector true (ltb-true sector sectors within) (omega arith)
        ∙ ap (λ b. b || list_any (λ page. page == sector) pages || list_any
        (λ (p : Pointer). lies_in sector p.place (run_length p.key)) pool.pointers || list_any
        (λ (entry : Entry). lies_in sector entry.home.place (run_length entry.key)) (waiting_in table)) (lt-ltb sector 32 first)
    by_order false past =
        let none : sectors ≤ sector = grind (arith, nat_tests) in
        get_or_past (used_sectors sectors pages pool table) sector true (omega (arith, none, length-used_sectors sectors pages pool table))

-- ---- What counts of a pool

-- a test that looks at a pointer's place and key alone finds the same over any image and any table
any_pointer : (test : (place : ℕ) → Key → Bool) (image image' : Image) (table table' : TableState) (slots : List SlotRecord)
    → list_any (λ (p : Pointer). test p.place p.key) (map (pointer_of image table) slots) ≡ list_any (λ (p : Pointer). test p.place p.key)
    (map (pointer_of image' table') slots)
any_pointer test image image' table table' [] = refl
any_pointer test image image' table table' (slot ∷ slots) = ap (λ b. test slot.pointer.place slot.pointer.key || b)
    (any_pointer test image image' table table' slots)

-- tests that agree map a list alike
pub map_same : (f g : ℕ → Bool) (xs : List ℕ) → ((x : ℕ) → f x ≡ g x) → map f xs ≡ map g xs
map_same f g [] same = refl
map_same f g (x ∷ xs) same = ap (λ b. b ∷ map f xs) (same x) ∙ ap (λ (bs : List Bool). g x ∷ bs) (map_same f g xs same)

-- which sectors are used hangs on no image, no block, no setting and no group
pub used_same : (sectors : ℕ) (pages : List ℕ) (slots : List SlotRecord) (table : TableState) (image image' : Image)
    (contents contents' : List Stored) (modes modes' : List Mode) (quota quota' : Option ℕ) (group group' : ℕ)
    → used_sectors sectors pages (pool_after image contents slots table modes quota group) table ≡ used_sectors sectors pages
    (pool_after image' contents' slots table modes' quota' group') table
used_same sectors pages slots table image image' contents contents' modes modes' quota quota' group group' =
    map_same (is_used pages (pool_after image contents slots table modes quota group) table)
    (is_used pages (pool_after image' contents' slots table modes' quota' group') table) (range_with_len 0 sectors)
    (λ s. ap (λ b. nat_lt s 32 || list_any (λ page. page == s) pages || b || list_any
    (λ (entry : Entry). lies_in s entry.home.place (run_length entry.key)) (waiting_in table))
    (any_pointer (λ place key. lies_in s place (run_length key)) (with_blocks contents image)
    (with_blocks contents' image') table table slots))

-- the places of a pool's pointers are those of its slots
pub places_after : (image : Image) (table : TableState) (slots : List SlotRecord)
    → map (λ (p : Pointer). p.place) (map (pointer_of image table) slots) ≡ map (λ (slot : SlotRecord). slot.pointer.place) slots
places_after image table [] = refl
places_after image table (slot ∷ slots) = ap (λ (places : List ℕ). slot.pointer.place ∷ places) (places_after image table slots)

-- ---- The lengths of keys

-- what holds of each entry and of each change holds of each home that the table finds
module _ (P : Entry → Type 0) (Q : Change → Type 0) (entry_of : (entry : Entry) → Q (changes.Entry entry) → P entry) where
  pub all_found : (log : List Change) (entries : List Entry) → AllByRecursion Q log → AllByRecursion P entries
      → AllByRecursion P (fold set_found entries log)
  all_found [] entries logged all = all
  all_found (changes.Entry entry ∷ log) entries logged all = all_found log (set_entry entry entries) logged.1
      (all_put entries_put P entry entries (entry_of entry logged.0) all)
  all_found (changes.Gone key ∷ log) entries logged all = all_found log (drop_entry key entries) logged.1
      (all_filter P (λ entry. not (key_eq entry.key key)) entries all)

  pub all_waiting : (table : TableState) → AllByRecursion P table.zap → AllByRecursion Q table.flush → AllByRecursion Q table.active
      → AllByRecursion P (waiting_in table)
  all_waiting table zap flush active =
      all_filter P (λ entry. entry.home.count == 0) (entries_found table)
      (all_found table.active (fold set_found table.zap table.flush) active (all_found table.flush table.zap flush zap))

-- each home that waits has a run of one sector
pub waiting_runs : (table : TableState) → AllByRecursion (λ entry. IsKeyLength entry.key.len) table.zap
    → AllByRecursion (λ change. IsKeyLength (key_in change).len) table.flush
    → AllByRecursion (λ change. IsKeyLength (key_in change).len) table.active
    → AllByRecursion (λ entry. run_length entry.key ≡ 1) (waiting_in table)
waiting_runs table zap flush active =
    all_from (λ (entry : Entry). IsKeyLength entry.key.len) (λ (entry : Entry). run_length entry.key ≡ 1)
    (λ entry len. one_sector entry.key len) (waiting_in table)
    (all_waiting (λ entry. IsKeyLength entry.key.len) (λ change. IsKeyLength (key_in change).len) (λ entry len. len) table zap flush active)

-- and so has each pointer
pub pointer_runs : (image : Image) (table : TableState) (slots : List SlotRecord)
    → AllByRecursion (λ slot. IsKeyLength slot.pointer.key.len) slots
    → AllByRecursion (λ (p : Pointer). run_length p.key ≡ 1) (map (pointer_of image table) slots)
pointer_runs image table [] lens = tt
pointer_runs image table (slot ∷ slots) lens = (one_sector slot.pointer.key lens.0, pointer_runs image table slots lens.1)

-- slots in their ranges have keys of such lengths
pub slot_lengths : (sectors group : ℕ) (slots : List SlotRecord) → AllByRecursion (λ slot. is_slot sectors group slot ≡ true) slots
    → AllByRecursion (λ slot. IsKeyLength slot.pointer.key.len) slots
slot_lengths sectors group slots all =
    all_from (λ (slot : SlotRecord). is_slot sectors group slot ≡ true) (λ (slot : SlotRecord). IsKeyLength slot.pointer.key.len)
    (λ slot is. (is_slot-from sectors group slot is).len) slots all

-- the marks of a pool after a group are what it uses, where each key has a length in its range
pub used_after : (sectors : ℕ) (pages : List ℕ) (image : Image) (contents : List Stored) (slots : List SlotRecord) (table : TableState)
    (modes : List Mode) (quota : Option ℕ) (group : ℕ)
    → AllByRecursion (λ slot. IsKeyLength slot.pointer.key.len) slots → AllByRecursion (λ entry. IsKeyLength entry.key.len) table.zap
    → AllByRecursion (λ change. IsKeyLength (key_in change).len) table.flush
    → AllByRecursion (λ change. IsKeyLength (key_in change).len) table.active
    → marked (marked (marked (ring_used sectors) pages) (map (λ slot. slot.pointer.place) slots))
    (map (λ entry. entry.home.place) (waiting_in table))
    ≡ used_sectors sectors pages (pool_after image contents slots table modes quota group) table
used_after sectors pages image contents slots table modes quota group lens zap flush active =
    ap (λ (places : List ℕ). marked (marked (marked (ring_used sectors) pages) places)
    (map (λ (entry : Entry). entry.home.place) (waiting_in table))) (sym (places_after (with_blocks contents image) table slots))
    ∙ used_is sectors pages (pool_after image contents slots table modes quota group) table
    (pointer_runs (with_blocks contents image) table slots lens) (waiting_runs table zap flush active)
