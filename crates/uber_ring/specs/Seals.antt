-- The seal that a sector spells, and when a gate is open.
use Rattle.std.specs.Prelude.{ℕ, ◌==◌, ◌%◌, Bool, ◌&&◌, Option, Some, None, if◌then◌else◌, List, take, drop, codes}
use Rattle.std.specs.Str.{bytes_eq}
use Rattle.sha2.specs.Sha256.{sha256}
use Rattle.ddt_entry.specs.Bytes.{bytes_at, number_at}
use Rattle.page_tree.specs.Pointers.{pointers_in}
use Rattle.uber_ring.specs.declared.seal.Seal.{Seal}

-- the text in front of a seal's body
abbrev pub seal_text : List ℕ
seal_text = codes "DDTSEAL1"

-- the fields of a body, read at their offsets
unfoldable pub seal_in : List ℕ → Seal
seal_in body = record {
  version = number_at 4 8 body;
  tag = number_at 4 12 body;
  group = number_at 8 16 body;
  sectors = number_at 8 24 body;
  quota = number_at 8 32 body;
  quota_flag = number_at 4 40 body;
  modes = bytes_at 16 48 body;
  age = number_at 8 64 body;
  active_changes = number_at 8 72 body;
  flushing_changes = number_at 8 80 body;
  checkpoint_flag = number_at 4 88 body;
  checkpoint_len = number_at 4 92 body;
  checkpoint_digest = bytes_at 32 96 body;
  pointers = pointers_in 6 (bytes_at 240 128 body);
  homes = number_at 8 368 body;
  counts = number_at 8 376 body;
  pages = number_at 8 384 body;
}

-- whether bytes are a body: the text is in front, and at the end the digest of all before it
unfoldable pub is_body : List ℕ → Bool
is_body body = bytes_eq (take 8 body) seal_text && bytes_eq (drop 4064 body) (sha256 (take 4064 body))

-- the seal of a body, for a program that reads this version, in the ring's slot of this number
abbrev pub body_seal : ℕ → ℕ → List ℕ → Option Seal
body_seal version slot body =
    if is_body body && ((seal_in body).version == version) && ((seal_in body).group % 16 == slot) then Some (seal_in body) else None

-- the text in front of an open gate
abbrev pub open_text : List ℕ
open_text = codes "DDTOPEN1"

-- whether a gate is open
unfoldable pub is_open : List ℕ → Bool
is_open gate = bytes_eq (take 8 gate) open_text
