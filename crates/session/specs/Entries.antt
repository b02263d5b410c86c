-- Where a session's items begin, and the premise on digests.
use Rattle.std.specs.Prelude.{◌≡◌, ◌≤◌, ◌-◌, ◌^◌, ◌++◌, ◌∷◌, ℕ, List, length}
use Rattle.std.specs.List.{AllByRecursion}
use Rattle.disk_model.specs.Images.{Image, sector_at}
use Rattle.pool_model.specs.Plain.{Part}
use Rattle.pool_model.specs.Clash.{HasNoOther, contents, part_trusted}
use Rattle.pool_model.specs.Group.{Standing, Rules}
use Rattle.pool_model.specs.Run.{HasFlatRoom, IsRun, RunStep, first_standing, last_standing, parts_of}
use Rattle.table_state.specs.Flat.{HasNoPool}
use Rattle.table_state.specs.Holding.{Holds}
use Rattle.table_state.specs.SealForms.{fewest_sectors, most_sectors}
use Rattle.session.specs.declared.words.Word.{Word}
use Rattle.session.specs.declared.words.Word.TheVariants.{Run, Make}

-- the highest group from which a session goes on, so that its items stay in the numbers of groups
abbrev pub last_start : ℕ
last_start = 2 ^ 62 - 10002

-- a disk of so many sectors can have a pool
pub record IsLawfulSize (sectors : ℕ) : Type 0 where
  pub enough : fewest_sectors ≤ sectors
  pub few : sectors ≤ most_sectors

-- what the image holds, from which its own session goes on
pub record IsFound (tag : ℕ) (image : Image) (s : Standing) : Type 0 where
  pub holds : Holds tag image s
  pub blocks : s.blocks ≡ sector_at image
  pub early : s.pool.group ≤ last_start

-- no pool is there, and the new one is empty
pub record IsMade (image : Image) (s : Standing) : Type 0 where
  pub none : HasNoPool image
  pub lawful : IsLawfulSize (length image)
  pub new : s ≡ first_standing (length image)

-- where the items of a session begin over an image
abbrev pub BeginsAt : Word → (tag : ℕ) → Image → Standing → Type 0
BeginsAt Run tag image s = IsFound tag image s
BeginsAt Make tag image s = IsMade image s

-- no content that an item writes in a lane whose mode is on has another content of its key beside it: not among all that the items write, nor
-- in the pool where they begin, nor at a home that waits there. The modes are those that stand once the items before it have run
abbrev pub HasNoClashFrom : Rules → Standing → List Part → Type 0
HasNoClashFrom rules s parts =
    (steps : List RunStep) (part : Part) (rest : List Part) → IsRun HasFlatRoom rules s steps → parts ≡ parts_of steps ++ part ∷ rest
    → AllByRecursion (HasNoOther rules.keying.key_of s (contents parts)) (part_trusted (last_standing s steps).pool part)
