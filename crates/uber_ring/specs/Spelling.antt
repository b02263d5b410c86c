-- How a seal and a gate are written.
use Rattle.std.specs.Prelude.{◌≡◌, ℕ, ◌<◌, ◌^◌, List, ◌++◌, length}
use Rattle.std.specs.List.{flat_map, AllByRecursion}
use Rattle.sha2.specs.Sha256.{sha256}
use Rattle.ddt_entry.specs.Bytes.{number_bytes, zeros, AreBytes}
use Rattle.page_tree.specs.Pointers.{FitsPointer, pointer_bytes}
use Rattle.uber_ring.specs.declared.seal.Seal.{Seal}
use Rattle.uber_ring.specs.Seals.{seal_text, open_text}

-- the first part of the fields: the pool's settings, and four zeros before the modes
unfoldable pub settings_bytes : Seal → List ℕ
settings_bytes seal = seal_text ++ number_bytes 4 seal.version ++ number_bytes 4 seal.tag ++ number_bytes 8 seal.group
    ++ number_bytes 8 seal.sectors ++ number_bytes 8 seal.quota ++ number_bytes 4 seal.quota_flag ++ zeros 4 ++ seal.modes

-- the second part: the state of the table's logs
unfoldable pub state_bytes : Seal → List ℕ
state_bytes seal = number_bytes 8 seal.age ++ number_bytes 8 seal.active_changes ++ number_bytes 8 seal.flushing_changes
    ++ number_bytes 4 seal.checkpoint_flag ++ number_bytes 4 seal.checkpoint_len ++ seal.checkpoint_digest

-- the third part: the pointers
abbrev pub pointers_bytes : Seal → List ℕ
pointers_bytes seal = flat_map pointer_bytes seal.pointers

-- the last part: the sums
unfoldable pub sums_bytes : Seal → List ℕ
sums_bytes seal = number_bytes 8 seal.homes ++ number_bytes 8 seal.counts ++ number_bytes 8 seal.pages

-- all that the digest is of: the fields, and zeros
unfoldable pub signed_bytes : Seal → List ℕ
signed_bytes seal = settings_bytes seal ++ state_bytes seal ++ pointers_bytes seal ++ sums_bytes seal ++ zeros 3672

-- the one written body of a seal
unfoldable pub body_bytes : Seal → List ℕ
body_bytes seal = signed_bytes seal ++ sha256 (signed_bytes seal)

-- the seal has a body: each number fits its field, and each list has its length
pub record FitsSeal (seal : Seal) : Type 0 where
  pub version : seal.version < 2 ^ 32
  pub tag : seal.tag < 2 ^ 32
  pub group : seal.group < 2 ^ 64
  pub sectors : seal.sectors < 2 ^ 64
  pub quota : seal.quota < 2 ^ 64
  pub quota_flag : seal.quota_flag < 2 ^ 32
  pub modes_len : length seal.modes ≡ 16
  pub modes : AreBytes seal.modes
  pub age : seal.age < 2 ^ 64
  pub active_changes : seal.active_changes < 2 ^ 64
  pub flushing_changes : seal.flushing_changes < 2 ^ 64
  pub checkpoint_flag : seal.checkpoint_flag < 2 ^ 32
  pub checkpoint_len : seal.checkpoint_len < 2 ^ 32
  pub checkpoint_digest_len : length seal.checkpoint_digest ≡ 32
  pub checkpoint_digest : AreBytes seal.checkpoint_digest
  pub pointers_len : length seal.pointers ≡ 6
  pub pointers : AllByRecursion FitsPointer seal.pointers
  pub homes : seal.homes < 2 ^ 64
  pub counts : seal.counts < 2 ^ 64
  pub pages : seal.pages < 2 ^ 64

-- what an open gate is written as
unfoldable pub open_gate : List ℕ
open_gate = open_text ++ zeros 4088

-- what a closed gate is written as
unfoldable pub closed_gate : List ℕ
closed_gate = zeros 4096
