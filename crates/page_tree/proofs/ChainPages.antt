-- How many sectors a chain names that was walked: as many as its records take pages.
use Rattle.std.proofs.Common.{◌≡◌, ℕ, zero, suc, ◌+◌, ◌≤◌, Bool, true, false, ◌&&◌, ◌||◌, ◌==◌, List, [], ◌∷◌, ◌++◌, Option, Some, None, length, refl, sym, ap, subst, ◌∙◌, arith}
use Rattle.std.specs.Prelude.{take, drop, unwrap_or, nat_le, if◌then◌else◌}
use Rattle.std.specs.Str.{bytes_eq}
use Rattle.std.proofs.lemmas.Bool.{and_parts, leb-true, eqb-true}
use Rattle.std.proofs.lemmas.List.{length-append}
use Rattle.disk_model.specs.Images.{Image, sector_at}
use Rattle.page_tree.specs.Chains.{Walked, chain_text, record_len, page_records, is_null, is_open_to, is_chain_page, count_in, next_in, parts_in, chain_page_in, holds_page, behind_records, walk, chain_in, pointer_or_null}
use Rattle.page_tree.specs.ChainWrites.{pages_for}
use Rattle.page_tree.specs.declared.pointer.PagePtr.{PagePtr}

-- ---- The records of a page

-- as many parts are cut as were asked for
length-parts_in : (count len : ℕ) (bytes : List ℕ) → length (parts_in count len bytes) ≡ count
length-parts_in zero len bytes = refl
length-parts_in (suc count) len bytes = ap suc (length-parts_in count len (drop len bytes))

-- a page of a chain has a record, no more than there is room for, and as many as there is room for where another page follows
record IsFilled (count : ℕ) (last : Bool) : Type 0 where
  some : 1 ≤ count
  room : count ≤ page_records
  full : last ≡ false → count ≡ page_records

full_or_last : (last : Bool) (count : ℕ) → (last || (count == page_records)) ≡ true → last ≡ false → count ≡ page_records
full_or_last true count tests more = absurd (cc more)
full_or_last false count tests more = eqb-true count page_records tests

filled_by : (text last : Bool) (count : ℕ)
    → (text && nat_le 1 count && nat_le count page_records && (last || (count == page_records))) ≡ true → IsFilled count last
filled_by text last count tests =
    let parts = and_parts (text && nat_le 1 count && nat_le count page_records) (last || (count == page_records)) tests in
    let bounds = and_parts (text && nat_le 1 count) (nat_le count page_records) parts.0 in
    record {
      some = leb-true 1 count (and_parts text (nat_le 1 count) bounds.0).1;
      room = leb-true count page_records bounds.1;
      full = full_or_last last count parts.1;
    }

filled : (bytes : List ℕ) → is_chain_page bytes ≡ true → IsFilled (count_in bytes) (is_null (next_in bytes))
unfolding is_chain_page
filled bytes form = filled_by (bytes_eq (take 4 bytes) chain_text) (is_null (next_in bytes)) (count_in bytes) form

-- a page in front of others takes one page more: it is full, or there are no others
page_in_front : (count records : ℕ) (last : Bool) → IsFilled count last → (last ≡ true → records ≡ 0)
    → pages_for (count + records) ≡ suc (pages_for records)
page_in_front count records true is alone = omega (arith, is.some, is.room, alone refl)
page_in_front count records false is alone = omega (arith, is.full refl)

-- ---- The walk

same_walked : (a b : Walked) → Some a ≡ Some b → a ≡ b
same_walked a b same = ap (λ o. unwrap_or o a) same

-- a walk from the null pointer reads nothing
none_from_null : (most : ℕ) (image : Image) (sectors : ℕ) (named : List ℕ) (pointer : PagePtr) (walked : Walked)
    → walk most image sectors named pointer ≡ Some walked → is_null pointer ≡ true → length walked.records ≡ 0
none_from_null zero image sectors named pointer walked is null = absurd (cc is)
none_from_null (suc most) image sectors named pointer walked is null = by_null (is_null pointer) _ null is
  where
    by_null : (b : Bool) (further : Option Walked) → b ≡ true
        → (if b then Some (record { named = named; records = [] }) else further) ≡ Some walked → length walked.records ≡ 0
    by_null true further null ended = ap (λ (w : Walked). length w.records) (sym (same_walked _ walked ended))
    by_null false further null ended = absurd (cc null)

-- a page more is named, and its records are read
one_page_more : (named : List ℕ) (sector : ℕ) (after : List ℕ) (front records : List (List ℕ))
    → length after ≡ length (named ++ sector ∷ []) + pages_for (length records)
    → pages_for (length front + length records) ≡ suc (pages_for (length records))
    → length after ≡ length named + pages_for (length (front ++ records))
one_page_more named sector after front records behind more =
    behind ∙ omega (arith, more, length-append named (sector ∷ []), ap pages_for (length-append front records))

-- a walk names as many sectors more as its records take pages
pages_walked : (most : ℕ) (image : Image) (sectors : ℕ) (named : List ℕ) (pointer : PagePtr) (walked : Walked)
    → walk most image sectors named pointer ≡ Some walked → length walked.named ≡ length named + pages_for (length walked.records)
pages_walked zero image sectors named pointer walked is = absurd (cc is)
pages_walked (suc most) image sectors named pointer walked is =
    by_tests (is_null pointer) (is_open_to sectors named pointer.sector && holds_page image pointer)
    (walk most image sectors (named ++ pointer.sector ∷ []) (next_in page)) refl refl
    (λ w. pages_walked most image sectors (named ++ pointer.sector ∷ []) (next_in page) w) is
  where
    page : List ℕ
    page = sector_at image pointer.sector

    by_tests : (b d : Bool) (o : Option Walked) → (is_open_to sectors named pointer.sector && holds_page image pointer) ≡ d
        → walk most image sectors (named ++ pointer.sector ∷ []) (next_in page) ≡ o
        → ((w : Walked) → walk most image sectors (named ++ pointer.sector ∷ []) (next_in page) ≡ Some w
        → length w.named ≡ length (named ++ pointer.sector ∷ []) + pages_for (length w.records))
        → (if b then Some (record { named = named; records = [] })
        else (if d then behind_records (chain_page_in page).records o else None)) ≡ Some walked
        → length walked.named ≡ length named + pages_for (length walked.records)
    by_tests true d o belongs rest again ended = subst (λ (w : Walked). length w.named ≡ length named + pages_for (length w.records))
        (same_walked _ walked ended) (omega arith)
    by_tests false false o belongs rest again ended = absurd (cc ended)
    by_tests false true None belongs rest again ended = absurd (cc ended)
    by_tests false true (Some w) belongs rest again ended =
        subst (λ (v : Walked). length v.named ≡ length named + pages_for (length v.records)) (same_walked _ walked ended)
        (one_page_more named pointer.sector w.named (chain_page_in page).records w.records (again w rest)
        (ap (λ n. pages_for (n + length w.records)) (length-parts_in (count_in page) record_len (drop 48 page))
        ∙ page_in_front (count_in page) (length w.records) (is_null (next_in page)) (filled page form)
        (none_from_null most image sectors (named ++ pointer.sector ∷ []) (next_in page) w rest)))
      where
        form : is_chain_page page ≡ true
        form = (and_parts _ (is_chain_page page)
            (and_parts (is_open_to sectors named pointer.sector) (holds_page image pointer) belongs).1).1

-- a chain that was walked names as many sectors as its records take pages
pub chain_pages : (image : Image) (sectors : ℕ) (named : List ℕ) (root : Option PagePtr) (walked : Walked)
    → chain_in image sectors named root ≡ Some walked → length walked.named ≡ length named + pages_for (length walked.records)
chain_pages image sectors named root walked is = pages_walked sectors image sectors named (pointer_or_null root) walked is
