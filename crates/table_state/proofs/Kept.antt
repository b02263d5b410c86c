-- What an image stands for hangs on nothing but the seal that counts, the pages that it names and the blocks of its pointers.
use Rattle.std.proofs.Common.{◌≡◌, ℕ, zero, suc, Bool, true, false, ◌&&◌, ◌||◌, ◌==◌, List, [], ◌∷◌, ◌++◌, ◌≤◌, Option, Some, None, map, length, refl, sym, ap, subst, ⊎_elim, ◌∙◌, eq-eqb}
use Rattle.std.specs.Prelude.{take, unwrap_or, if◌then◌else◌}
use Rattle.std.specs.List.{AllByRecursion, list_any}
use Rattle.std.specs.Str.{bytes_eq}
use Rattle.std.proofs.lemmas.Bool.{and_parts}
use Rattle.std.proofs.lemmas.Bool.Decides.{eqb_tells}
use Rattle.page_tree.proofs.OpenPlaces.{is_open-parts}
use Rattle.std.proofs.lemmas.List.Folds.{list_any-append}
use Rattle.sha2.specs.Sha256.{sha256}
use Rattle.disk_model.specs.Images.{Image, sector_at}
use Rattle.page_tree.specs.Chains.{Walked, is_null, is_open_to, holds_page, is_chain_page, next_in, chain_page_in, behind_records, walk, pointer_or_null}
use Rattle.page_tree.specs.declared.pointer.PagePtr.{PagePtr}
use Rattle.uber_ring.specs.Ring.{newest}
use Rattle.pool_model.specs.Pool.{Pool, Pointer}
use Rattle.pool_model.specs.Table.{TableState}
use Rattle.table_state.specs.Flat.{Flat, IsRead, StandsFor, Reads, SameIn, image_version, table_in, pointer_of}
use Rattle.uber_ring.specs.declared.seal.Seal.{Seal}
use Rattle.table_state.specs.SealForms.{is_formed, modes_in, quota_in, slots_root, unique_root, duplicate_root, active_root, flushing_root}
use Rattle.table_state.specs.Sealed.{SameBlocks}
use Rattle.slot_table.specs.declared.slot.SlotRecord.{SlotRecord}

-- a sector that is named holds the same
same_there : (image c : Image) (sectors : List ℕ) (sector : ℕ) → SameIn image c sectors → list_any (λ other. other == sector) sectors ≡ true
    → sector_at c sector ≡ sector_at image sector
same_there image c [] sector same found = absurd (cc found)
same_there image c (first ∷ sectors) sector same found =
    ⊎_elim
    (λ here. subst (λ s. sector_at c s ≡ sector_at image s) here.1 same.0)
    (λ other. same_there image c sectors sector same.1 (ap (λ b. b || list_any (λ o. o == sector) sectors) (sym other.0) ∙ found))
    (eqb_tells first sector)

-- a walk that came to an end has ended here, or gone on from a page that belongs there
data Step (most : ℕ) (image : Image) (sectors : ℕ) (named : List ℕ) (pointer : PagePtr) (walked : Walked) : Type 0 where
  ended : is_null pointer ≡ true → record { named = named; records = [] } ≡ walked → Step most image sectors named pointer walked
  went_on : (w : Walked) → is_null pointer ≡ false → (is_open_to sectors named pointer.sector && holds_page image pointer) ≡ true
      → walk most image sectors (named ++ pointer.sector ∷ []) (next_in (sector_at image pointer.sector)) ≡ Some w
      → record w { records = (chain_page_in (sector_at image pointer.sector)).records ++ w.records } ≡ walked
      → Step most image sectors named pointer walked

same_walked : (a b : Walked) → Some a ≡ Some b → a ≡ b
same_walked a b same = ap (λ o. unwrap_or o a) same

step_of : (most : ℕ) (image : Image) (sectors : ℕ) (named : List ℕ) (pointer : PagePtr) (walked : Walked)
    → walk (suc most) image sectors named pointer ≡ Some walked → Step most image sectors named pointer walked
step_of most image sectors named pointer walked is =
    by_null (is_null pointer) (is_open_to sectors named pointer.sector && holds_page image pointer)
    (walk most image sectors (named ++ pointer.sector ∷ []) (next_in (sector_at image pointer.sector))) refl refl refl is
  where
    here : Walked
    here = record { named = named; records = [] }

    by_null : (b d : Bool) (o : Option Walked) → is_null pointer ≡ b
        → (is_open_to sectors named pointer.sector && holds_page image pointer) ≡ d
        → walk most image sectors (named ++ pointer.sector ∷ []) (next_in (sector_at image pointer.sector)) ≡ o
        → (if b then Some here else (if d then behind_records (chain_page_in (sector_at image pointer.sector)).records o else None)) ≡ Some
        walked → Step most image sectors named pointer walked
    by_null true d o null belongs rest same = ended null (same_walked here walked same)
    by_null false true None null belongs rest same = absurd (cc same)
    by_null false true (Some w) null belongs rest same = went_on w null belongs rest (same_walked _ walked same)
    by_null false false o null belongs rest same = absurd (cc same)

-- whatever was named before a walk is named after it
named_grows : (test : ℕ → Bool) (most : ℕ) (image : Image) (sectors : ℕ) (named : List ℕ) (pointer : PagePtr) (walked : Walked)
    → walk most image sectors named pointer ≡ Some walked → list_any test named ≡ true → list_any test walked.named ≡ true
named_grows test zero image sectors named pointer walked is before = absurd (cc is)
named_grows test (suc most) image sectors named pointer walked is before =
    by_step (λ w rest. named_grows test most image sectors (named ++ pointer.sector ∷ [])
    (next_in (sector_at image pointer.sector)) w rest longer) (step_of most image sectors named pointer walked is)
  where
    longer : list_any test (named ++ pointer.sector ∷ []) ≡ true
    longer = list_any-append test named (pointer.sector ∷ []) ∙ ap (λ b. b || list_any test (pointer.sector ∷ [])) before

    by_step : ((w : Walked) → walk most image sectors (named ++ pointer.sector ∷ []) (next_in (sector_at image pointer.sector)) ≡ Some w
        → list_any test w.named ≡ true) → Step most image sectors named pointer walked → list_any test walked.named ≡ true
    by_step again (ended null same) = ap (λ (w : Walked). list_any test w.named) (sym same) ∙ before
    by_step again (went_on w null belongs rest same) = ap (λ (v : Walked). list_any test v.named) (sym same) ∙ again w rest

-- whatever a walk names lies behind the ring
pub named_behind : (most : ℕ) (image : Image) (sectors : ℕ) (named : List ℕ) (pointer : PagePtr) (walked : Walked)
    → walk most image sectors named pointer ≡ Some walked → AllByRecursion (λ sector. 32 ≤ sector) named
    → AllByRecursion (λ sector. 32 ≤ sector) walked.named
named_behind zero image sectors named pointer walked is before = absurd (cc is)
named_behind (suc most) image sectors named pointer walked is before =
    by_step (λ w rest open_here. named_behind most image sectors (named ++ pointer.sector ∷ [])
    (next_in (sector_at image pointer.sector)) w rest (longer named before open_here)) (step_of most image sectors named pointer walked is)
  where
    longer : (ns : List ℕ) → AllByRecursion (λ sector. 32 ≤ sector) ns → is_open_to sectors named pointer.sector ≡ true
        → AllByRecursion (λ sector. 32 ≤ sector) (ns ++ pointer.sector ∷ [])
    longer [] all open_here = ((is_open-parts sectors named pointer.sector open_here).from, tt)
    longer (n ∷ ns) all open_here = (all.0, longer ns all.1 open_here)

    by_step : ((w : Walked) → walk most image sectors (named ++ pointer.sector ∷ []) (next_in (sector_at image pointer.sector)) ≡ Some w
        → is_open_to sectors named pointer.sector ≡ true → AllByRecursion (λ sector. 32 ≤ sector) w.named)
        → Step most image sectors named pointer walked → AllByRecursion (λ sector. 32 ≤ sector) walked.named
    by_step again (ended null same) = subst (λ (w : Walked). AllByRecursion (λ sector. 32 ≤ sector) w.named) same before
    by_step again (went_on w null belongs rest same) = subst (λ (v : Walked). AllByRecursion (λ sector. 32 ≤ sector) v.named) same
        (again w rest (and_parts (is_open_to sectors named pointer.sector) (holds_page image pointer) belongs).0)

-- and so does each page of a flat image
pub pages_behind : (image : Image) (seal : Seal) (flat : Flat) → IsRead image seal flat → AllByRecursion (λ sector. 32 ≤ sector) flat.named
pages_behind image seal flat read =
    one read.after_active (flushing_root seal) flat.named read.flushing read.fifth
    (one read.after_duplicate (active_root seal) read.after_active read.active read.fourth
    (one read.after_unique (duplicate_root seal) read.after_duplicate read.duplicate read.third
    (one read.after_slots (unique_root seal) read.after_unique read.unique read.second
    (one [] (slots_root seal) read.after_slots read.slots read.first tt))))
  where
    one : (before : List ℕ) (root : Option PagePtr) (after : List ℕ) (records : List (List ℕ)) → Reads image before root after records
        → AllByRecursion (λ sector. 32 ≤ sector) before → AllByRecursion (λ sector. 32 ≤ sector) after
    one before root after records read = named_behind (length image) image (length image) before (pointer_or_null root)
        (record { named = after; records = records }) read

-- the walk is the same on an image that holds the same in each sector that it names
pub walk_kept : (most : ℕ) (image c : Image) (sectors : ℕ) (named : List ℕ) (pointer : PagePtr) (walked : Walked)
    → walk most image sectors named pointer ≡ Some walked → SameIn image c walked.named → walk most c sectors named pointer ≡ Some walked
walk_kept zero image c sectors named pointer walked is same = absurd (cc is)
walk_kept (suc most) image c sectors named pointer walked is same =
    by_step (λ w rest there. walk_kept most image c sectors (named ++ pointer.sector ∷ [])
    (next_in (sector_at image pointer.sector)) w rest there) (step_of most image sectors named pointer walked is)
  where
    by_step : ((w : Walked) → walk most image sectors (named ++ pointer.sector ∷ []) (next_in (sector_at image pointer.sector)) ≡ Some w
        → SameIn image c w.named → walk most c sectors (named ++ pointer.sector ∷ []) (next_in (sector_at image pointer.sector)) ≡ Some w)
        → Step most image sectors named pointer walked → walk (suc most) c sectors named pointer ≡ Some walked
    by_step again (ended null done) = ap
        (λ b. if b then Some (record { named = named; records = [] }) else further (sector_at c pointer.sector)) null ∙ ap Some done
      where
        further : List ℕ → Option Walked
        further bytes =
            if is_open_to sectors named pointer.sector && holds_page c pointer
            then behind_records (chain_page_in bytes).records (walk most c sectors (named ++ pointer.sector ∷ []) (next_in bytes))
            else None
    by_step again (went_on w null belongs rest done) =
        ap (λ b. if b then Some (record { named = named; records = [] }) else further
        (is_open_to sectors named pointer.sector && holds_page c pointer) (sector_at c pointer.sector)) null
        ∙ ap (λ b. further b (sector_at c pointer.sector))
        (ap (λ (bytes : List ℕ). is_open_to sectors named pointer.sector && (bytes_eq (sha256 bytes) pointer.digest && is_chain_page bytes))
        page ∙ belongs)
        ∙ ap (λ (bytes : List ℕ). further true bytes) page
        ∙ ap (behind_records (chain_page_in (sector_at image pointer.sector)).records) (again w rest there)
        ∙ ap Some done
      where
        further : Bool → List ℕ → Option Walked
        further b bytes = if b then behind_records (chain_page_in bytes).records
            (walk most c sectors (named ++ pointer.sector ∷ []) (next_in bytes)) else None

        there : SameIn image c w.named
        there = subst (λ (v : Walked). SameIn image c v.named) (sym done) same

        last_one : (b : Bool) → (b || ((pointer.sector == pointer.sector) || false)) ≡ true
        last_one true = refl
        last_one false = ap (λ x. x || false) (eq-eqb pointer.sector pointer.sector refl)

        self : list_any (λ other. other == pointer.sector) (named ++ pointer.sector ∷ []) ≡ true
        self = list_any-append (λ other. other == pointer.sector) named (pointer.sector ∷ [])
            ∙ last_one (list_any (λ other. other == pointer.sector) named)

        page : sector_at c pointer.sector ≡ sector_at image pointer.sector
        page = same_there image c w.named pointer.sector there
            (named_grows (λ other. other == pointer.sector) most image sectors (named ++ pointer.sector ∷ [])
            (next_in (sector_at image pointer.sector)) w rest self)

-- the pointers keep their contents where their blocks are the same
pub pointers_kept : (image c : Image) (table : TableState) (slots : List SlotRecord) → SameBlocks image c slots
    → map (pointer_of image table) slots ≡ map (pointer_of c table) slots
pointers_kept image c table [] same = refl
pointers_kept image c table (slot ∷ slots) same =
    ap (λ (bytes : List ℕ). with_block bytes ∷ map (pointer_of image table) slots) (sym same.0)
    ∙ ap (λ (ps : List Pointer). pointer_of c table slot ∷ ps) (pointers_kept image c table slots same.1)
  where
    with_block : List ℕ → Pointer
    with_block bytes = record (pointer_of c table slot) { content = take slot.pointer.key.len bytes }

-- each part of what is named by and by is named at the end
module _ (image c : Image) (count : length c ≡ length image) where
  reads_kept : (before : List ℕ) (root : Option PagePtr) (after : List ℕ) (records : List (List ℕ)) → Reads image before root after records
      → SameIn image c after → Reads c before root after records
  reads_kept before root after records read same =
      ap (λ n. walk n c n before (pointer_or_null root)) count
      ∙ walk_kept (length image) image c (length image) before (pointer_or_null root)
      (record { named = after; records = records }) read same

  -- what was the same at the end of a walk was the same before it
  earlier : (before : List ℕ) (root : Option PagePtr) (after : List ℕ) (records : List (List ℕ)) → Reads image before root after records
      → SameIn image c after → SameIn image c before
  earlier before root after records read same = every before
      (λ sector named. same_there image c after sector same
      (named_grows (λ other. other == sector) (length image) image (length image) before (pointer_or_null root)
      (record { named = after; records = records }) read named))
    where
      every : (sectors : List ℕ)
          → ((sector : ℕ) → list_any (λ other. other == sector) sectors ≡ true → sector_at c sector ≡ sector_at image sector)
          → SameIn image c sectors
      every [] each = tt
      every (sector ∷ sectors) each =
          (each sector (ap (λ b. b || list_any (λ other. other == sector) sectors) (eq-eqb sector sector refl)), every sectors (λ s found. each s (behind (sector == s) _ found)))
        where
          behind : (a b : Bool) → b ≡ true → (a || b) ≡ true
          behind true b found = refl
          behind false b found = found

  read_kept : (seal : Seal) (flat : Flat) → IsRead image seal flat → SameIn image c flat.named → IsRead c seal flat
  read_kept seal flat read same =
      let at_active = earlier read.after_active (flushing_root seal) flat.named read.flushing read.fifth same in
      let at_duplicate = earlier read.after_duplicate (active_root seal) read.after_active read.active read.fourth at_active in
      let at_unique = earlier read.after_unique (duplicate_root seal) read.after_duplicate read.duplicate read.third at_duplicate in
      let at_slots = earlier read.after_slots (unique_root seal) read.after_unique read.unique read.second at_unique in
      record {
        after_slots = read.after_slots;
        after_unique = read.after_unique;
        after_duplicate = read.after_duplicate;
        after_active = read.after_active;
        slots = read.slots;
        unique = read.unique;
        duplicate = read.duplicate;
        active = read.active;
        flushing = read.flushing;
        slots_spelled = read.slots_spelled;
        unique_spelled = read.unique_spelled;
        duplicate_spelled = read.duplicate_spelled;
        active_spelled = read.active_spelled;
        flushing_spelled = read.flushing_spelled;
        first = reads_kept [] (slots_root seal) read.after_slots read.slots read.first at_slots;
        second = reads_kept read.after_slots (unique_root seal) read.after_unique read.unique read.second at_unique;
        third = reads_kept read.after_unique (duplicate_root seal) read.after_duplicate read.duplicate read.third at_duplicate;
        fourth = reads_kept read.after_duplicate (active_root seal) read.after_active read.active read.fourth at_active;
        fifth = reads_kept read.after_active (flushing_root seal) flat.named read.flushing read.fifth same;
      }

  -- so the image stands for the same pool with the same table
  pub state_kept : (tag : ℕ) (pool : Pool) (table : TableState) (state : StandsFor tag image pool table)
      → newest image_version c ≡ newest image_version image → SameIn image c state.flat.named
      → AllByRecursion (λ slot. sector_at c slot.pointer.place ≡ sector_at image slot.pointer.place) state.flat.slots
      → StandsFor tag c pool table
  state_kept tag pool table state seals pages blocks = record {
    seal = state.seal;
    flat = state.flat;
    whole = state.whole;
    table_is = state.table_is;
    well_formed = state.well_formed;
    matches = state.matches;
    homes = state.homes;
    references = state.references;
    pages = state.pages;
    pointers_clear = state.pointers_clear;
    waiting_clear = state.waiting_clear;
    counts = seals ∙ state.counts;
    formed = ap (λ n. is_formed tag n state.seal) count ∙ state.formed;
    read = read_kept state.seal state.flat state.read pages;
    pool_is = state.pool_is
        ∙ ap (λ (ps : List Pointer). record
        { pointers = ps; modes = modes_in state.seal; quota = quota_in state.seal; group = state.seal.group })
        (pointers_kept image c (table_in state.seal state.flat) state.flat.slots blocks);
  }

  -- by the same seal, with the same content of its chains
  module _ (tag : ℕ) (pool : Pool) (table : TableState) (state : StandsFor tag image pool table)
      (seals : newest image_version c ≡ newest image_version image) (pages : SameIn image c state.flat.named)
      (blocks : AllByRecursion (λ slot. sector_at c slot.pointer.place ≡ sector_at image slot.pointer.place) state.flat.slots)
    where
      pub seal_kept : (state_kept tag pool table state seals pages blocks).seal ≡ state.seal
      unfolding state_kept
      seal_kept = refl

      pub flat_kept : (state_kept tag pool table state seals pages blocks).flat ≡ state.flat
      unfolding state_kept
      flat_kept = refl
