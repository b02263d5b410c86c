-- What page pointers are, and how they are spelled.
use Rattle.std.specs.Prelude.{◌≡◌, ℕ, zero, suc, ◌<◌, ◌^◌, List, [], ◌∷◌, ◌++◌, length, drop, replicate}
use Rattle.ddt_entry.specs.Bytes.{bytes_at, number_at, number_bytes, AreBytes}
use Rattle.page_tree.specs.declared.pointer.PagePtr.{PagePtr}

-- the pointer to no page
abbrev pub null_pointer : PagePtr
null_pointer = record { sector = 0; digest = replicate 32 0 }

-- the 40 bytes of a pointer: its sector, and the digest
unfoldable pub pointer_bytes : PagePtr → List ℕ
pointer_bytes pointer = number_bytes 8 pointer.sector ++ pointer.digest

-- what the first 40 bytes spell
unfoldable pub pointer_in : List ℕ → PagePtr
pointer_in bytes = record { sector = number_at 8 0 bytes; digest = bytes_at 32 8 bytes }

-- this many pointers, one behind the other
abbrev pub pointers_in : ℕ → List ℕ → List PagePtr
pointers_in zero bytes = []
pointers_in (suc count) bytes = pointer_in bytes ∷ pointers_in count (drop 40 bytes)

-- the pointer has a spelling: its sector fits 8 bytes, and its digest is 32 bytes
pub record FitsPointer (pointer : PagePtr) : Type 0 where
  pub sector : pointer.sector < 2 ^ 64
  pub digest_len : length pointer.digest ≡ 32
  pub digest : AreBytes pointer.digest
