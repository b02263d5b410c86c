-- What reads tell of the ring, where the disk tells its contents.
use Rattle.std.proofs.Common.{◌≡◌, ℕ, ◌<◌, ◌≤◌, Bool, true, false, Option, Some, None, length, sym, ◌∙◌, ap, arith}
use Rattle.std.specs.Prelude.{List, IfSome, nat_le, if◌then◌else◌}
use Rattle.std.proofs.lemmas.Bool.Decides.{nat_tests}
use Rattle.disk_model.specs.Images.{Image, sector_at}
use Rattle.disk_model.specs.DiskLaws.{TellsImage, Gives}
use Rattle.uber_ring.specs.Seals.{body_seal}
use Rattle.uber_ring.specs.Ring.{slot_count, fewest_sectors, body_sector, gate_is_open, behind, seal_at, highest, newest}
use Rattle.uber_ring.specs.declared.seal.Seal.{Seal}
use Rattle.uber_ring.proofs.RingLaws.{seal_at-closed, seal_at-open, newest_small}

module _ (version slot : ℕ) where
  pub told_closed : (told : Option Image) (reads : Bool) → IfSome told (λ image. reads ≡ gate_is_open image slot) → reads ≡ false
      → IfSome told (λ image. None ≡ seal_at version image slot)
  told_closed None reads gate closed = tt
  told_closed (Some image) reads gate closed = sym (seal_at-closed version slot image (sym gate ∙ closed))

  -- what stands behind a gate, where the disk is large enough
  pub behind-large : (image : Image) → fewest_sectors ≤ length image
      → behind version image slot ≡ body_seal version slot (sector_at image (body_sector slot))
  unfolding behind
  behind-large image large =
      ap (λ enough. if enough then body_seal version slot (sector_at image (body_sector slot)) else None) (le-leb large)
    where
      le-leb : fewest_sectors ≤ length image → nat_le fewest_sectors (length image) ≡ true
      le-leb enough = grind (arith, nat_tests, enough)

  pub told_seal : (told : Option Image) (sectors : ℕ) (reads : Bool) (body : List ℕ) (seal : Option Seal) → TellsImage sectors told
      → fewest_sectors ≤ sectors → IfSome told (λ image. reads ≡ gate_is_open image slot) → reads ≡ true
      → Gives told (body_sector slot) body → seal ≡ body_seal version slot body → IfSome told (λ image. seal ≡ seal_at version image slot)
  told_seal None sectors reads body seal is large gate shown gives same = tt
  told_seal (Some image) sectors reads body seal is large gate shown gives same =
      same
      ∙ sym (ap (body_seal version slot) gives)
      ∙ sym (behind-large image (omega (arith, large, is.count)))
      ∙ sym (seal_at-open version slot image (sym gate ∙ shown))

pub told_all : (version : ℕ) (told : Option Image) (best : Option Seal)
    → IfSome told (λ image. best ≡ highest (seal_at version image) slot_count) → IfSome told (λ image. best ≡ newest version image)
unfolding newest
told_all version None best all = tt
told_all version (Some image) best all = all

-- too small for a pool
pub told_small : (version sectors : ℕ) (told : Option Image) → TellsImage sectors told → sectors < fewest_sectors
    → IfSome told (λ image. None ≡ newest version image)
told_small version sectors None is small = tt
told_small version sectors (Some image) is small = sym (newest_small version sectors image is small)
