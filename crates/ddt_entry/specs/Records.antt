-- The form of a change in 72 bytes. Its numbers are little-endian.
--
--   offset  bytes  field
--        0      4  kind: 1 for an entry, 2 for a key that has gone
--        4      4  the key's length
--        8     32  the key's digest
--       40      8  the home's place
--       48      8  the home's birth
--       56      8  the home's since
--       64      8  the home's count
--
-- A key that has gone has 0 in the last four.
use Rattle.std.specs.Prelude.{ℕ, Bool, not, ◌==◌, ◌&&◌, nat_le, if◌then◌else◌, List, Result, Ok, Err}
use Rattle.ddt_entry.specs.Bytes.{bytes_at, number_at}
use Rattle.ddt_entry.specs.declared.key.Key.{Key}
use Rattle.ddt_entry.specs.declared.entry.Home.{Home}
use Rattle.ddt_entry.specs.declared.entry.Change.{Change}
use Rattle.ddt_entry.specs.declared.entry.Change.TheVariants.{Entry, Gone}
use Rattle.ddt_entry.specs.declared.record.Malformed.{Malformed}

-- what the seven fields say, before anybody judges them
pub record Fields : Type 0 where
  pub kind : ℕ
  pub key : Key
  pub home : Home

-- the fields in the first 72 bytes
abbrev pub fields_in : List ℕ → Fields
fields_in bytes = record {
  kind = number_at 4 0 bytes;
  key = record { len = number_at 4 4 bytes; digest = bytes_at 32 8 bytes };
  home = record {
    place = number_at 8 40 bytes;
    birth = number_at 8 48 bytes;
    since = number_at 8 56 bytes;
    count = number_at 8 64 bytes;
  };
}

-- whether a key can have this length
abbrev pub is_key_length : ℕ → Bool
is_key_length len = nat_le 1 len && nat_le len 4_096

-- whether there are four zeros in place of a home
abbrev pub is_no_home : Home → Bool
is_no_home home = home.place == 0 && home.birth == 0 && home.since == 0 && home.count == 0

-- the answer to fields that say no change
abbrev pub malformed : Result Change Malformed
malformed = Err (record {})

-- the change that fields say
abbrev pub change_of : Fields → Result Change Malformed
change_of fields =
    if not (is_key_length fields.key.len) then malformed
    else (if fields.kind == 1 then Ok (Entry (record { key = fields.key; home = fields.home }))
    else (if fields.kind == 2 && is_no_home fields.home then Ok (Gone fields.key)
    else malformed))

-- the change that the first 72 bytes spell
abbrev pub change_in : List ℕ → Result Change Malformed
change_in bytes = change_of (fields_in bytes)
