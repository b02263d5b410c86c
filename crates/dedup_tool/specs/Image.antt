-- Which disk an image on the command line names.
use Rattle.std.specs.Prelude.{◌≡◌, ℕ, ◌≤◌, ◌++◌, List, codes, Option, Some, None}
use Rattle.std.specs.Fmt.{decimal}
use Rattle.dedup_tool.specs.declared.image.Image.{Image}
use Rattle.dedup_tool.specs.declared.image.Image.TheVariants.{Memory, New, Path}

-- a number without leading zeros, from least to most
pub record IsNumberOf (digits : List ℕ) (least most n : ℕ) : Type 0 where
  pub spelled : digits ≡ decimal n
  pub no_less : least ≤ n
  pub no_more : n ≤ most

-- `mem:` and a disk's number of sectors
pub record IsMemory (image : List ℕ) (sectors : ℕ) : Type 0 where
  pub spelled : image ≡ codes "mem:" ++ decimal sectors
  pub least : 2048 ≤ sectors
  pub most : sectors ≤ 65536

-- a disk's number of sectors, and behind a colon the path of its file
pub record IsSizedPath (text : List ℕ) (sectors : ℕ) (path : List ℕ) : Type 0 where
  pub spelled : text ≡ decimal sectors ++ (codes ":" ++ path)
  pub least : 2048 ≤ sectors
  pub most : sectors ≤ 1000000

-- `new:`, a disk's number of sectors, and the path of its file
pub record IsNew (image : List ℕ) (sectors : ℕ) (path : List ℕ) : Type 0 where
  pub text : List ℕ
  pub spelled : image ≡ codes "new:" ++ text
  pub sized : IsSizedPath text sectors path

-- neither `mem:` nor `new:` stands at its front
pub record IsPath (image : List ℕ) : Type 0 where
  pub no_memory : (rest : List ℕ) → ¬ (image ≡ codes "mem:" ++ rest)
  pub no_new : (rest : List ℕ) → ¬ (image ≡ codes "new:" ++ rest)

-- what an image names, and that it names nothing
abbrev pub Names : (image : List ℕ) → Option Image → Type 0
Names image (Some (Memory sectors)) = IsMemory image sectors
Names image (Some (New sectors path)) = IsNew image sectors path.now
Names image (Some (Path path)) = IsPath image × (path.now ≡ image)
Names image None = ((sectors : ℕ) → ¬ IsMemory image sectors) × ((sectors : ℕ) (path : List ℕ) → ¬ IsNew image sectors path)
    × (IsPath image → ⊥)
