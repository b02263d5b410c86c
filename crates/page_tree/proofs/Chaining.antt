-- How the writes of a chain go on from page to page.
use Rattle.std.proofs.Common.{◌≡◌, ◌≢◌, ℕ, ◌+◌, ◌*◌, ◌<◌, true, false, ◌==◌, List, [], ◌∷◌, ◌++◌, Option, Some, None, length, get_or, take, drop, sym, ap, subst, ◌∙◌, arith, eq-eqb}
use Rattle.std.specs.Prelude.{fold, slice_set}
use Rattle.std.specs.List.{list_any}
use Rattle.std.proofs.lemmas.List.{drop_more, drop-drop, length-set}
use Rattle.sha2.specs.Sha256.{sha256}
use Rattle.std.proofs.lemmas.List.Folds.{list_any_at}
use Rattle.std.proofs.lemmas.List.Sums.{fold-append}
use Rattle.disk_model.specs.Images.{Image}
use Rattle.disk_model.specs.DiskLaws.{Torn, Holds, MayTouch}
use Rattle.disk_model.proofs.Sectors.{sector_at-set_other}
use Rattle.page_tree.specs.Chains.{page_records}
use Rattle.page_tree.specs.ChainWrites.{PageWrite, Chain, pages_for, write_page, page_before, chained, chain_of, Written, SameBut, MayTouchAll, ChainLeaves}
use Rattle.page_tree.specs.declared.pointer.PagePtr.{PagePtr}

-- the writes of this chain were made, and this is its root
pub record HasWritten (chain : Chain) (root : Option PagePtr) (old new : Option Image) : Type 0 where
  pub pointer : root ≡ chain.root
  pub written : Written old new chain.writes

-- a page that is there has a record
pub pages_within : (left records : ℕ) → left < pages_for records → page_records * left < records
pages_within left records within = omega (arith, within)

-- the chain from one page earlier on
pub chain_more : (places : List ℕ) (records : List (List ℕ)) (left : ℕ) → left < length places
    → chain_of (drop left places) (drop (page_records * left) records) ≡ chained (get_or places left 0)
    (take page_records (drop (page_records * left) records)) (chain_of (drop (left + 1) places) (drop (page_records * (left + 1)) records))
chain_more places records left within =
    ap (λ (ps : List ℕ). chain_of ps (drop (page_records * left) records)) (drop_more places left 0 within)
    ∙ ap (λ (rs : List (List ℕ)). chained (get_or places left 0) (take page_records (drop (page_records * left) records))
    (chain_of (drop (left + 1) places) rs)) behind
  where
    behind : drop page_records (drop (page_records * left) records) ≡ drop (page_records * (left + 1)) records
    behind = drop-drop page_records (page_records * left) records ∙ ap (λ n. drop n records) (omega arith)

-- one write more
pub written_more : (old mid new : Option Image) (writes : List PageWrite) (sector : ℕ) (bytes : List ℕ) → Written old mid writes
    → Holds mid new sector bytes → Written old new (writes ++ record { sector = sector; bytes = bytes } ∷ [])
written_more None mid new writes sector bytes so_far holds = tt
written_more (Some image) mid new writes sector bytes so_far holds =
    let here : Holds (Some (fold write_page image writes)) new sector bytes = subst
    (λ (m : Option Image). Holds m new sector bytes) so_far holds in
    here ∙ ap Some (sym (fold-append write_page image writes (record { sector = sector; bytes = bytes } ∷ [])))

module _ (places : List ℕ) (left : ℕ) (inside : left < length places) where
  -- a sector that none of the places is, isn't this one
  apart_from : (at : ℕ) → list_any (λ place. place == at) places ≡ false → at ≢ get_or places left 0
  apart_from at none same = true_false
      (sym (list_any_at (λ place. place == at) places left 0 inside (eq-eqb (get_or places left 0) at (sym same))) ∙ none)
    where
      true_false : true ≡ false → ⊥
      true_false e = cc e

  pub torn_more : (e d c : Image) → SameBut places e d → Torn (get_or places left 0) d c → SameBut places e c
  torn_more e d c same torn = record {
    count = torn.count ∙ same.count;
    others = λ at none. torn.others at (apart_from at none) ∙ same.others at none;
  }

  pub set_more : (e d : Image) (bytes : List ℕ) → SameBut places e d → SameBut places e (slice_set d (get_or places left 0) bytes)
  set_more e d bytes same = record {
    count = length-set d (get_or places left 0) bytes ∙ same.count;
    others = λ at none. sector_at-set_other d (get_or places left 0) at bytes (apart_from at none) ∙ same.others at none;
  }

  pub touched_more : (old mid new : Option Image) (bytes : List ℕ) → MayTouchAll old mid places → Holds mid new (get_or places left 0) bytes
      → MayTouchAll old new places
  touched_more None mid new bytes so_far holds = tt
  touched_more (Some image) mid new bytes so_far holds =
      let here : Holds (Some so_far.0) new (get_or places left 0) bytes = subst
      (λ (m : Option Image). Holds m new (get_or places left 0) bytes) so_far.1 holds in
      (slice_set so_far.0 (get_or places left 0) bytes, here, set_more image so_far.0 bytes so_far.2)

  pub touched_last : (old mid new : Option Image) → MayTouchAll old mid places → MayTouch mid new (get_or places left 0)
      → MayTouchAll old new places
  touched_last None mid new so_far touch = tt
  touched_last (Some image) mid new so_far touch =
      let here : MayTouch (Some so_far.0) new (get_or places left 0) = subst
      (λ (m : Option Image). MayTouch m new (get_or places left 0)) so_far.1 touch in
      (here.0, here.1, torn_more image so_far.0 here.0 so_far.2 here.2)

  -- what a torn page leaves of what the pages before it left
  pub leaves_more : (old mid : Image → Type 0) → ((d : Image) → mid d → ChainLeaves places old d) → (c : Image)
      → (d : Image) × mid d × Torn (get_or places left 0) d c → ChainLeaves places old c
  leaves_more old mid earlier c torn =
      let from = earlier torn.0 torn.1 in
      (from.0, from.1, torn_more from.0 torn.0 c from.2 torn.2)

-- a page in front of what was written so far
pub chain_step : (places : List ℕ) (records : List (List ℕ)) (left earlier : ℕ) → left ≡ earlier + 1 → earlier < length places
    → (old mid new : Option Image) (next : Option PagePtr) (page : List (List ℕ)) (pointer : PagePtr)
    → HasWritten (chain_of (drop left places) (drop (page_records * left) records)) next old mid
    → page ≡ take page_records (drop (page_records * earlier) records)
    → pointer ≡ record { sector = get_or places earlier 0; digest = sha256 (page_before next page) }
    → Holds mid new (get_or places earlier 0) (page_before next page)
    → HasWritten (chain_of (drop earlier places) (drop (page_records * earlier) records)) (Some pointer) old new
chain_step places records left earlier one_less inside old mid new next page pointer so_far same_page same_pointer holds =
    subst (λ (chain : Chain). HasWritten chain (Some pointer) old new) (sym (chain_more places records earlier inside))
    (record {
      pointer = ap Some (same_pointer ∙ ap (λ (bytes : List ℕ). record { sector = place; digest = sha256 bytes }) bytes_same);
      written = subst (λ (bytes : List ℕ). Written old new (rest.writes ++ record { sector = place; bytes = bytes } ∷ [])) bytes_same
          (written_more old mid new rest.writes place (page_before next page) here.written holds);
    })
  where
    place : ℕ
    place = get_or places earlier 0

    rest : Chain
    rest = chain_of (drop (earlier + 1) places) (drop (page_records * (earlier + 1)) records)

    here : HasWritten rest next old mid
    here = subst (λ n. HasWritten (chain_of (drop n places) (drop (page_records * n) records)) next old mid) one_less so_far

    bytes_same : page_before next page ≡ page_before rest.root (take page_records (drop (page_records * earlier) records))
    bytes_same = ap (λ (n : Option PagePtr). page_before n page) here.pointer ∙ ap (page_before rest.root) same_page
