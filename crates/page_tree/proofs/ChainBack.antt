-- A chain of pages that was written is read back.
use Rattle.std.proofs.Common.{◌≡◌, ◌≢◌, ℕ, zero, suc, ◌^◌, ◌<◌, ◌≤◌, ◌⊎◌, Bool, true, false, ◌&&◌, ◌==◌, List, [], ◌∷◌, ◌++◌, Option, Some, None, length, take, drop, replicate, refl, sym, ap, subst, ◌∙◌, append_assoc, inl, inr, arith}
use Rattle.std.specs.Prelude.{fold, if◌then◌else◌}
use Rattle.std.specs.List.{list_any, AllByRecursion}
use Rattle.std.proofs.lemmas.Bool.{and_from, and_left, ne_eqb, cases_lt}
use Rattle.std.proofs.lemmas.List.{append-nil, length-set, length-take, length-drop, take-append-drop, get_or-replicate, get_or_past}
use Rattle.std.proofs.lemmas.List.Sums.{fold-append}
use Rattle.std.proofs.lemmas.Slice.Eq.{bytes_eq-Decides}
use Rattle.sha2.specs.Sha256.{sha256}
use Rattle.ddt_entry.specs.Bytes.{AreBytes}
use Rattle.disk_model.specs.Images.{Image, sector_at}
use Rattle.disk_model.proofs.Sectors.{sector_at-set, sector_at-set_other}
use Rattle.page_tree.specs.Pointers.{FitsPointer, null_pointer}
use Rattle.page_tree.specs.Chains.{ChainPage, Walked, record_len, page_records, is_null, is_open_to, is_chain_page, chain_page_in, holds_page, behind_records, walk, chain_in, pointer_or_null}
use Rattle.page_tree.specs.ChainWrites.{FitsPage, PageWrite, Chain, HoldsWrites, AreOpen, SameBut, pages_for, chain_page_bytes, page_before, write_page, chain_of}
use Rattle.page_tree.specs.declared.pointer.PagePtr.{PagePtr}
use Rattle.page_tree.proofs.ChainLaws.{chain_page_in-chain_page_bytes, is_chain_page-chain_page_bytes}
use Rattle.page_tree.proofs.OpenPlaces.{all_mapped, is_open-parts, apart_from_first, open_places-below, open_places-fewer}
use Rattle.page_tree.proofs.Digests.{length-sha256, AreBytes-sha256}

-- ---- what holds of each item of a list

module _ {X : Type 0} (P : X → Type 0) where
  all_appended : (xs ys : List X) → AllByRecursion P xs → AllByRecursion P ys → AllByRecursion P (xs ++ ys)
  all_appended [] ys all_xs all_ys = all_ys
  all_appended (x ∷ xs) ys all_xs all_ys = (all_xs.0, all_appended xs ys all_xs.1 all_ys)

  all_parts : (xs ys : List X) → AllByRecursion P (xs ++ ys) → AllByRecursion P xs × AllByRecursion P ys
  all_parts [] ys all = (tt, all)
  all_parts (x ∷ xs) ys all =
      let parts = all_parts xs ys all.1 in
      ((all.0, parts.0), parts.1)

  all_taken : (count : ℕ) (xs : List X) → AllByRecursion P xs → AllByRecursion P (take count xs)
  all_taken zero xs all = tt
  all_taken (suc count) [] all = tt
  all_taken (suc count) (x ∷ xs) all = (all.0, all_taken count xs all.1)

  all_dropped : (count : ℕ) (xs : List X) → AllByRecursion P xs → AllByRecursion P (drop count xs)
  all_dropped zero xs all = all
  all_dropped (suc count) [] all = tt
  all_dropped (suc count) (x ∷ xs) all = all_dropped count xs all.1

-- ---- what the writes of a chain leave

-- an image that agrees in each sector of the writes holds them too
pub writes_stay : (image c : Image) (writes : List PageWrite) → HoldsWrites image writes
    → AllByRecursion (λ (write : PageWrite). sector_at c write.sector ≡ sector_at image write.sector) writes → HoldsWrites c writes
writes_stay image c [] holds same = tt
writes_stay image c (write ∷ writes) holds same = (same.0 ∙ holds.0, writes_stay image c writes holds.1 same.1)

-- what holds of each place holds of each sector that the chain writes
pub sectors_of_writes : (P : ℕ → Type 0) (places : List ℕ) (records : List (List ℕ)) → AllByRecursion P places
    → AllByRecursion (λ (write : PageWrite). P write.sector) (chain_of places records).writes
sectors_of_writes P [] records all = tt
sectors_of_writes P (place ∷ places) records all =
    all_appended (λ (write : PageWrite). P write.sector) (chain_of places (drop page_records records)).writes _
    (sectors_of_writes P places (drop page_records records) all.1) (all.0, tt)

-- an image that agrees in each place of a chain holds its writes too
pub writes_at_places : (image c : Image) (places : List ℕ) (records : List (List ℕ)) → HoldsWrites image (chain_of places records).writes
    → AllByRecursion (λ place. sector_at c place ≡ sector_at image place) places → HoldsWrites c (chain_of places records).writes
writes_at_places image c places records holds same =
    writes_stay image c (chain_of places records).writes holds
    (sectors_of_writes (λ sector. sector_at c sector ≡ sector_at image sector) places records same)

-- writes of other sectors leave the chain's
pub writes_behind_others : (others : List ℕ) (image c : Image) (places : List ℕ) (records : List (List ℕ))
    → HoldsWrites image (chain_of places records).writes → SameBut others image c
    → AllByRecursion (λ place. list_any (λ other. other == place) others ≡ false) places → HoldsWrites c (chain_of places records).writes
writes_behind_others others image c places records holds same apart =
    writes_at_places image c places records holds
    (all_mapped (λ place. list_any (λ other. other == place) others ≡ false)
    (λ place. sector_at c place ≡ sector_at image place) same.others places apart)

-- writes leave an image its size
length-written : (image : Image) (writes : List PageWrite) → length (fold write_page image writes) ≡ length image
length-written image [] = refl
length-written image (write ∷ writes) = length-written (write_page image write) writes ∙ length-set image write.sector write.bytes

-- one write more, of a sector that no earlier one wrote
held_more : (before : Image) (places : List ℕ) (records : List (List ℕ)) (last : PageWrite)
    → HoldsWrites before (chain_of places records).writes → AllByRecursion (λ other. other ≢ last.sector) places
    → last.sector < length before
    → HoldsWrites (write_page before last) ((chain_of places records).writes ++ last ∷ [])
held_more before places records last held apart inside =
    all_appended (λ (write : PageWrite). sector_at (write_page before last) write.sector ≡ write.bytes) (chain_of places records).writes
    (last ∷ [])
    (writes_at_places before (write_page before last) places records held
    (all_mapped (λ other. other ≢ last.sector) (λ other. sector_at (write_page before last) other ≡ sector_at before other)
    (λ other away. sector_at-set_other before last.sector other last.bytes away) places apart))
    (sector_at-set before last.sector last.bytes inside, tt)

-- after the writes of a chain the image holds them
pub writes_are_held : (image : Image) (sectors : ℕ) (named places : List ℕ) (records : List (List ℕ)) → AreOpen sectors named places
    → sectors ≤ length image → HoldsWrites (fold write_page image (chain_of places records).writes) (chain_of places records).writes
writes_are_held image sectors named [] records all within = tt
writes_are_held image sectors named (place ∷ places) records all within =
    subst (λ (c : Image). HoldsWrites c (rest.writes ++ last ∷ [])) (sym (fold-append write_page image rest.writes (last ∷ [])))
    (held_more (fold write_page image rest.writes) places (drop page_records records) last
    (writes_are_held image sectors (named ++ place ∷ []) places (drop page_records records) all.1 within)
    (apart_from_first sectors named place places all.1) inside)
  where
    rest : Chain
    rest = chain_of places (drop page_records records)

    last : PageWrite
    last = record { sector = place; bytes = page_before rest.root (take page_records records) }

    inside : place < length (fold write_page image rest.writes)
    inside =
        let here = (is_open-parts sectors named place all.0).below in
        omega (arith, length-written image rest.writes, here, within)

-- ---- the pointers of a chain

FitsPointer-null : FitsPointer null_pointer
FitsPointer-null = record { sector = omega arith; digest_len = refl; digest = zeros_fit }
  where
    zeros_fit : AreBytes (replicate 32 0)
    zeros_fit i =
        elim (cases_lt i 32) [
          | inl lt ↦ rw (get_or-replicate {A = ℕ} 32 i 0 0 lt) (omega arith)
          | inr le ↦ rw (get_or_past {X = ℕ} (replicate 32 0) i 0 le) (omega arith)
        ]

-- the pointer to the first page of a chain has a spelling
pub root_fits : (places : List ℕ) (records : List (List ℕ)) → AllByRecursion (λ place. place < 2 ^ 64) places
    → FitsPointer (pointer_or_null (chain_of places records).root)
root_fits [] records within = FitsPointer-null
root_fits (place ∷ places) records within = record {
  sector = within.0;
  digest_len = length-sha256 (page_before (chain_of places (drop page_records records)).root (take page_records records));
  digest = AreBytes-sha256 (page_before (chain_of places (drop page_records records)).root (take page_records records));
}

-- ---- the walk

-- records of which there are none
no_records : (records : List (List ℕ)) → length records ≡ 0 → [] ≡ records
no_records [] none = refl
no_records (bytes ∷ records) none = absurd (omega arith)

-- a page of a chain that is written fits: another page follows only one that is full
page_fits : (places : List ℕ) (records : List (List ℕ)) → suc (length places) ≡ pages_for (length records)
    → AllByRecursion (λ bytes. length bytes ≡ record_len) records → AllByRecursion (λ place. place < 2 ^ 64) places
    → FitsPage (record { next = pointer_or_null (chain_of places (drop page_records records)).root; records = take page_records records })
page_fits places records pages whole within = record {
  next = root_fits places (drop page_records records) within;
  some = omega (arith, length-take page_records records, pages);
  room = omega (arith, length-take page_records records);
  full = full_or_last places pages;
  records = all_taken (λ bytes. length bytes ≡ record_len) page_records records whole;
}
  where
    full_or_last : (ps : List ℕ) → suc (length ps) ≡ pages_for (length records)
        → (pointer_or_null (chain_of ps (drop page_records records)).root ≡ null_pointer)
        ⊎ (length (take page_records records) ≡ page_records)
    full_or_last [] count = inl refl
    full_or_last (p ∷ ps) count = inr (omega (arith, length-take page_records records, count))

-- the walk goes on from a page that belongs there
walk_on : (most : ℕ) (image : Image) (sectors : ℕ) (named : List ℕ) (pointer : PagePtr) (page : ChainPage) (walked : Walked)
    → is_null pointer ≡ false → is_open_to sectors named pointer.sector ≡ true
    → holds_page image pointer ≡ true → chain_page_in (sector_at image pointer.sector) ≡ page
    → walk most image sectors (named ++ pointer.sector ∷ []) page.next ≡ Some walked
    → walk (suc most) image sectors named pointer ≡ Some (record walked { records = page.records ++ walked.records })
walk_on most image sectors named pointer page walked not_null is_open holds is_page rest =
    ap (λ b. if b then Some (record { named = named; records = [] }) else further
    (is_open_to sectors named pointer.sector && holds_page image pointer) (chain_page_in (sector_at image pointer.sector))) not_null
    ∙ ap (λ b. further b (chain_page_in (sector_at image pointer.sector))) (and_from _ _ is_open holds)
    ∙ ap (λ (p : ChainPage). further true p) is_page
    ∙ ap (behind_records page.records) rest
  where
    further : Bool → ChainPage → Option Walked
    further b p =
        if b then behind_records p.records (walk most image sectors (named ++ pointer.sector ∷ []) p.next)
        else None

-- a sector that holds the bytes of a page that fits holds the page of its pointer
holds_written : (image : Image) (place : ℕ) (page : ChainPage) → FitsPage page → sector_at image place ≡ chain_page_bytes page
    → holds_page image (record { sector = place; digest = sha256 (chain_page_bytes page) }) ≡ true
holds_written image place page fits there =
    and_from _ _
    ((bytes_eq-Decides (sha256 (sector_at image place)) (sha256 (chain_page_bytes page))).1 (ap sha256 there))
    (ap is_chain_page there ∙ is_chain_page-chain_page_bytes page fits)

-- a chain that an image holds is walked to its end
pub chain_is_walked : (most : ℕ) (image : Image) (sectors : ℕ) (named places : List ℕ) (records : List (List ℕ)) → length places < most
    → length places ≡ pages_for (length records) → AllByRecursion (λ bytes. length bytes ≡ record_len) records
    → AreOpen sectors named places → sectors ≤ 2 ^ 64 → HoldsWrites image (chain_of places records).writes
    → walk most image sectors named (pointer_or_null (chain_of places records).root) ≡ Some
    (record { named = named ++ places; records = records })
chain_is_walked zero image sectors named places records steps pages whole all_open within held = absurd (omega arith)
chain_is_walked (suc most) image sectors named [] records steps pages whole all_open within held =
    ap (λ (ns : List ℕ). Some (record { named = ns; records = [] })) (sym (append-nil named))
    ∙ ap (λ (rs : List (List ℕ)). Some (record { named = named ++ []; records = rs })) (no_records records (omega (arith, pages)))
chain_is_walked (suc most) image sectors named (place ∷ places) records steps pages whole all_open within held =
    walk_on most image sectors named pointer page (record { named = (named ++ place ∷ []) ++ places; records = drop page_records records })
    (and_left (place == 0) _ (ne_eqb place 0 (λ same. omega (arith, same, (is_open-parts sectors named place all_open.0).from))))
    all_open.0
    (holds_written image place page fits there)
    (ap chain_page_in there ∙ chain_page_in-chain_page_bytes page fits)
    (chain_is_walked most image sectors (named ++ place ∷ []) places (drop page_records records) (omega (arith, steps))
    (omega (arith, pages, length-drop page_records records))
    (all_dropped (λ bytes. length bytes ≡ record_len) page_records records whole) all_open.1 within parts.0)
    ∙ ap (λ (ns : List ℕ). Some (record { named = ns; records = take page_records records ++ drop page_records records }))
    (append_assoc named (place ∷ []) places)
    ∙ ap (λ (rs : List (List ℕ)). Some (record { named = named ++ place ∷ places; records = rs })) (take-append-drop page_records records)
  where
    rest : Chain
    rest = chain_of places (drop page_records records)

    page : ChainPage
    page = record { next = pointer_or_null rest.root; records = take page_records records }

    pointer : PagePtr
    pointer = record { sector = place; digest = sha256 (chain_page_bytes page) }

    fits : FitsPage page
    fits = page_fits places records pages whole (open_places-below sectors (2 ^ 64) (named ++ place ∷ []) places within all_open.1)

    parts : HoldsWrites image rest.writes × HoldsWrites image (record { sector = place; bytes = chain_page_bytes page } ∷ [])
    parts = all_parts (λ (write : PageWrite). sector_at image write.sector ≡ write.bytes) rest.writes
        (record { sector = place; bytes = chain_page_bytes page } ∷ []) held

    there : sector_at image place ≡ chain_page_bytes page
    there = parts.1.0

-- a chain that an image holds is read back from its root
pub chain_is_read_back : (image : Image) (sectors : ℕ) (named places : List ℕ) (records : List (List ℕ)) → 0 < sectors
    → length places ≡ pages_for (length records) → AllByRecursion (λ bytes. length bytes ≡ record_len) records
    → AreOpen sectors named places → sectors ≤ 2 ^ 64 → HoldsWrites image (chain_of places records).writes
    → chain_in image sectors named (chain_of places records).root ≡ Some (record { named = named ++ places; records = records })
chain_is_read_back image sectors named places records some pages whole all_open = chain_is_walked sectors image sectors named places records
    (open_places-fewer sectors named places some all_open) pages whole all_open
