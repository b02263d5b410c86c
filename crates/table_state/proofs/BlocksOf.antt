-- Blocks that are written stand at their places, and nothing else changes.
use Rattle.std.proofs.Common.{◌≡◌, ◌≢◌, ℕ, ◌-◌, ◌<◌, List, [], ◌∷◌, length, replicate, take, refl, sym, subst, ◌∙◌}
use Rattle.std.specs.List.{AllByRecursion}
use Rattle.std.proofs.Math.Seq.{take-append_seam}
use Rattle.std.proofs.lemmas.List.{length-set}
use Rattle.disk_model.specs.Images.{Image, sector_at}
use Rattle.disk_model.proofs.Sectors.{sector_at-set, sector_at-set_other}
use Rattle.pool_model.specs.Mirrors.{Stored}
use Rattle.pool_model.specs.Pool.{Pairwise}
use Rattle.table_state.specs.Pools.{block_sector, put_block, with_blocks}
use Rattle.pool_model.proofs.Lists.{all_from}

-- a place that no block has keeps its sector
pub beside_blocks : (contents : List Stored) (image : Image) (at : ℕ) → AllByRecursion (λ stored. stored.place ≢ at) contents
    → sector_at (with_blocks contents image) at ≡ sector_at image at
beside_blocks [] image at apart = refl
beside_blocks (stored ∷ contents) image at apart =
    beside_blocks contents (put_block image stored) at apart.1 ∙ sector_at-set_other image stored.place at (block_sector stored.bytes)
    (λ same. apart.0 (sym same))

-- each block stands at its place, where no two have one
pub blocks_placed : (contents : List Stored) (image : Image) → Pairwise (λ a b. a.place ≢ b.place) contents
    → AllByRecursion (λ stored. stored.place < length image) contents
    → AllByRecursion (λ stored. sector_at (with_blocks contents image) stored.place ≡ block_sector stored.bytes) contents
blocks_placed [] image apart inside = tt
blocks_placed (stored ∷ contents) image apart inside = (
  beside_blocks contents (put_block image stored) stored.place
      (all_from (λ (other : Stored). stored.place ≢ other.place) (λ (other : Stored). other.place ≢ stored.place)
      (λ other away same. away (sym same)) contents apart.0)
      ∙ sector_at-set image stored.place (block_sector stored.bytes) inside.0,
  blocks_placed contents (put_block image stored) apart.1
      (subst (λ n. AllByRecursion (λ (other : Stored). other.place < n) contents)
      (sym (length-set image stored.place (block_sector stored.bytes))) inside.1),
)

-- a block's sector begins with its bytes
pub block_cut : (bytes : List ℕ) → take (length bytes) (block_sector bytes) ≡ bytes
block_cut bytes = take-append_seam bytes (replicate (4096 - length bytes) 0)
