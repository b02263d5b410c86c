-- What writes of sectors leave of an image.
use Rattle.std.proofs.Common.{◌≡◌, ◌≢◌, ℕ, ◌<◌, List, [], length, refl, sym, ◌∙◌, ap, subst, ⊎_elim, arith}
use Rattle.std.specs.Prelude.{slice_set}
use Rattle.std.proofs.lemmas.Bool.{cases_eq}
use Rattle.std.proofs.lemmas.List.{length-set, get_or-set_same, get_or-set_other, ext_get_or}
use Rattle.disk_model.specs.Images.{Image, sector_at}
use Rattle.disk_model.specs.DiskLaws.{IsImage, Torn, sector_bytes}

-- a sector that is written holds what was written
pub sector_at-set : (image : Image) (at : ℕ) (bytes : List ℕ) → at < length image → sector_at (slice_set image at bytes) at ≡ bytes
sector_at-set image at bytes within = get_or-set_same image at bytes [] within

-- and the others are as before
pub sector_at-set_other : (image : Image) (at other : ℕ) (bytes : List ℕ) → other ≢ at
    → sector_at (slice_set image at bytes) other ≡ sector_at image other
sector_at-set_other image at other bytes apart = get_or-set_other image at other bytes [] apart

-- a written sector is whole, and so is the image
pub IsImage-set : (sectors : ℕ) (image : Image) (at : ℕ) (bytes : List ℕ) → IsImage sectors image
    → (at < sectors → length bytes ≡ sector_bytes) → IsImage sectors (slice_set image at bytes)
IsImage-set sectors image at bytes is long = record { count = length-set image at bytes ∙ is.count; whole = whole }
  where
    whole : (i : ℕ) → i < length (slice_set image at bytes) → length (sector_at (slice_set image at bytes) i) ≡ sector_bytes
    whole i within =
        let inside : i < length image = omega (arith, within, length-set image at bytes) in
        ⊎_elim
        (λ (same : i ≡ at).
        let inside_at : at < length image = subst (λ j. j < length image) same inside in
        ap (λ j. length (sector_at (slice_set image at bytes) j)) same ∙ ap length (sector_at-set image at bytes inside_at)
        ∙ long (omega (arith, inside_at, is.count)))
        (λ (apart : i ≢ at). ap length (sector_at-set_other image at i bytes apart) ∙ is.whole i inside)
        (cases_eq i at)

-- a write is one of the things that it may leave when a crash cuts it short
pub Torn-set : (image : Image) (at : ℕ) (bytes : List ℕ) → length bytes ≡ sector_bytes → Torn at image (slice_set image at bytes)
Torn-set image at bytes long = record {
  count = length-set image at bytes;
  others = λ i apart. sector_at-set_other image at i bytes apart;
  whole = λ within. ap length (sector_at-set image at bytes within) ∙ long;
}

-- so is that nothing was written
pub Torn-same : (sectors : ℕ) (image : Image) (at : ℕ) → IsImage sectors image → Torn at image image
Torn-same sectors image at is = record { count = refl; others = λ i apart. refl; whole = λ within. is.whole at within }

-- a torn write leaves whole sectors
pub IsImage-torn : (sectors : ℕ) (old new : Image) (at : ℕ) → IsImage sectors old → Torn at old new → IsImage sectors new
IsImage-torn sectors old new at is torn = record { count = torn.count ∙ is.count; whole = whole }
  where
    whole : (i : ℕ) → i < length new → length (sector_at new i) ≡ sector_bytes
    whole i within =
        let inside : i < length old = omega (arith, within, torn.count) in
        ⊎_elim
        (λ (same : i ≡ at). subst (λ j. length (sector_at new j) ≡ sector_bytes) (sym same)
        (torn.whole (subst (λ j. j < length old) same inside)))
        (λ (apart : i ≢ at). ap length (torn.others i apart) ∙ is.whole i inside)
        (cases_eq i at)

-- images with the same sectors are one
pub same_image : (c d : Image) → length c ≡ length d → ((at : ℕ) → sector_at c at ≡ sector_at d at) → c ≡ d
same_image c d count each = ext_get_or [] c d count (λ i within. each i)
