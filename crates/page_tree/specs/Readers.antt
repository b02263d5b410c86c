-- What a reader of pages tells of a page that it doesn't give.
use Rattle.std.specs.Prelude.{◌≡◌, ◌≢◌, ℕ, Option, IfSome, List, ◌++◌, Some}
use Rattle.sha2.specs.Sha256.{sha256}
use Rattle.disk_model.specs.Images.{Image, sector_at}
use Rattle.page_tree.specs.declared.pointer.PagePtr.{PagePtr}
use Rattle.page_tree.specs.Chains.{Walked}

-- the sector is the pointer's, and told contents lack the pointer's digest there
pub record LacksDigest (told : Option Image) (pointer : PagePtr) (sector : ℕ) : Type 0 where
  pub own : sector ≡ pointer.sector
  pub lacking : IfSome told (λ image. sha256 (sector_at image sector) ≢ pointer.digest)

-- a walk came to its end with these sectors named, and its records behind those that there were
abbrev pub HasWalked : Option Walked → (named : List ℕ) → (old new : List (List ℕ)) → Type 0
HasWalked walked named old new = (records : List (List ℕ)) × (walked ≡ Some (record { named = named; records = records }))
    × (new ≡ old ++ records)
