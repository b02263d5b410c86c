-- What keys are: how two are compared, and which key a content has.
use Rattle.std.specs.Prelude.{ℕ, Bool, ◌==◌, ◌&&◌, List, ◌∷◌, length, replicate, slice_index}
use Rattle.std.specs.Ordering.{nat_cmp, ordering_then}
use Rattle.std.specs.Cmp.Lexicographic.{slice_cmp}
use Rattle.std.specs.Str.{bytes_eq}
use Rattle.std.specs.declared.cmp.Ordering.{Ordering}
use Rattle.sha2.specs.Sha256.{sha256}
use Rattle.ddt_entry.specs.declared.key.Key.{Key}

-- the order of keys: by digest bytes, and then by length
abbrev pub key_cmp : Key → Key → Ordering
key_cmp a b = ordering_then (slice_cmp nat_cmp a.digest b.digest) (nat_cmp a.len b.len)

-- whether two keys are one
abbrev pub key_eq : Key → Key → Bool
key_eq a b = bytes_eq a.digest b.digest && (a.len == b.len)

-- how keys are made: the key of each content, and the number that stands for this function in an image
pub record Keying : Type 0 where
  pub key_of : List ℕ → Key
  pub tag : ℕ

-- the key by SHA-256
abbrev pub sha256_key : List ℕ → Key
sha256_key content = record { digest = sha256 content; len = length content }

-- the key by the first byte alone
abbrev pub weak_key : List ℕ → Key
weak_key content = record { digest = slice_index content 0 ∷ replicate 31 0; len = length content }
