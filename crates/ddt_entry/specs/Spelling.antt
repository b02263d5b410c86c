-- The one spelling of a change in the 72 bytes of `Records`, and which bytes and which changes have that form.
use Rattle.std.specs.Prelude.{◌≡◌, ℕ, ◌+◌, ◌^◌, ◌<◌, ◌≤◌, ◌⊎◌, List, ◌++◌, length, slice_index}
use Rattle.ddt_entry.specs.Bytes.{number_at, number_bytes, AreBytes}
use Rattle.ddt_entry.specs.declared.key.Key.{Key}
use Rattle.ddt_entry.specs.declared.entry.Home.{Home}
use Rattle.ddt_entry.specs.declared.entry.Change.{Change}
use Rattle.ddt_entry.specs.declared.entry.Change.TheVariants.{Entry, Gone}
use Rattle.ddt_entry.specs.Records.{Fields}

-- four zeros: what stands in place of the home of a key that has gone
abbrev pub no_home : Home
no_home = record { place = 0; birth = 0; since = 0; count = 0 }

-- the fields that say a change
abbrev pub fields_of : Change → Fields
fields_of (Entry entry) = record { kind = 1; key = entry.key; home = entry.home }
fields_of (Gone key) = record { kind = 2; key = key; home = no_home }

-- the fields as bytes, one after another
abbrev pub spelled : Fields → List ℕ
spelled fields =
    number_bytes 4 fields.kind
    ++ number_bytes 4 fields.key.len
    ++ fields.key.digest
    ++ number_bytes 8 fields.home.place
    ++ number_bytes 8 fields.home.birth
    ++ number_bytes 8 fields.home.since
    ++ number_bytes 8 fields.home.count

-- the one spelling of a change: 72 bytes
abbrev pub record_bytes : Change → List ℕ
record_bytes change = spelled (fields_of change)

-- a key can have this length in bytes
abbrev pub IsKeyLength : ℕ → Type 0
IsKeyLength len = (1 ≤ len) × (len ≤ 4_096)

-- the bytes begin with a record, by the table
pub record IsRecord (bytes : List ℕ) : Type 0 where
  pub kind : (number_at 4 0 bytes ≡ 1) ⊎ (number_at 4 0 bytes ≡ 2)
  pub len : IsKeyLength (number_at 4 4 bytes)
  pub gone : number_at 4 0 bytes ≡ 2 → (i : ℕ) → i < 32 → slice_index bytes (40 + i) ≡ 0

-- each part of the key fits its field
pub record KeyFits (key : Key) : Type 0 where
  pub len : key.len < 2 ^ 32
  pub digest_len : length key.digest ≡ 32
  pub digest : AreBytes key.digest

-- each number of the home fits its field
pub record HomeFits (home : Home) : Type 0 where
  pub place : home.place < 2 ^ 64
  pub birth : home.birth < 2 ^ 64
  pub since : home.since < 2 ^ 64
  pub count : home.count < 2 ^ 64

-- each part of the change fits its field
abbrev pub Fits : Change → Type 0
Fits (Entry entry) = KeyFits entry.key × HomeFits entry.home
Fits (Gone key) = KeyFits key
