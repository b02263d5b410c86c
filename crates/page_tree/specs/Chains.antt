-- Chains of pages: how a flat image keeps a list of records.
use Rattle.std.specs.Prelude.{ℕ, zero, suc, Bool, not, ◌&&◌, ◌||◌, ◌==◌, nat_le, nat_lt, List, [], ◌∷◌, ◌++◌, take, drop, replicate, codes, Option, Some, None, if◌then◌else◌}
use Rattle.std.specs.List.{list_any}
use Rattle.std.specs.Str.{bytes_eq}
use Rattle.sha2.specs.Sha256.{sha256}
use Rattle.ddt_entry.specs.Bytes.{number_at}
use Rattle.disk_model.specs.Images.{Image, sector_at}
use Rattle.page_tree.specs.Pointers.{null_pointer, pointer_in}
use Rattle.page_tree.specs.declared.pointer.PagePtr.{PagePtr}

-- what a page of a chain begins with
abbrev pub chain_text : List ℕ
chain_text = codes "FLT0"

-- the bytes of a record, and the most records that a page has
abbrev pub record_len : ℕ
record_len = 72

abbrev pub page_records : ℕ
page_records = 56

-- whether a pointer names no page
abbrev pub is_null : PagePtr → Bool
is_null pointer = (pointer.sector == 0) && bytes_eq pointer.digest (replicate 32 0)

-- a page of a chain: the pointer to the next one, null at the last, and its records in order
pub record ChainPage : Type 0 where
  pub next : PagePtr
  pub records : List (List ℕ)

-- so many parts of one length, one behind the other
abbrev pub parts_in : (count len : ℕ) → List ℕ → List (List ℕ)
parts_in zero len bytes = []
parts_in (suc count) len bytes = take len bytes ∷ parts_in count len (drop len bytes)

-- how many records a page says that it has
unfoldable pub count_in : List ℕ → ℕ
count_in bytes = number_at 4 4 bytes

-- the pointer to the next page
unfoldable pub next_in : List ℕ → PagePtr
next_in bytes = pointer_in (drop 8 bytes)

-- whether bytes are a page of a chain: the text, a number of records from 1 to 56, and 56 where another page follows
unfoldable pub is_chain_page : List ℕ → Bool
is_chain_page bytes =
    bytes_eq (take 4 bytes) chain_text && nat_le 1 (count_in bytes) && nat_le
    (count_in bytes) page_records && (is_null (next_in bytes) || (count_in bytes == page_records))

-- the page that bytes spell
abbrev pub chain_page_in : List ℕ → ChainPage
chain_page_in bytes = record { next = next_in bytes; records = parts_in (count_in bytes) record_len (drop 48 bytes) }

-- a pointer to a page, or the null pointer
abbrev pub pointer_or_null : Option PagePtr → PagePtr
pointer_or_null None = null_pointer
pointer_or_null (Some pointer) = pointer

-- what a walk of a chain has come to: the sectors that were named so far, in their order, and the records that were read
pub record Walked : Type 0 where
  pub named : List ℕ
  pub records : List (List ℕ)

-- records in front of what is walked next
abbrev pub behind_records : List (List ℕ) → Option Walked → Option Walked
behind_records records None = None
behind_records records (Some walked) = Some (record walked { records = records ++ walked.records })

-- whether a page may lie in a sector: outside the ring, on the disk, and not named yet
abbrev pub is_open_to : (sectors : ℕ) → (named : List ℕ) → (sector : ℕ) → Bool
is_open_to sectors named sector = nat_le 32 sector && nat_lt sector sectors && not (list_any (λ other. other == sector) named)

-- whether a sector holds the page of this pointer, and it has the form
abbrev pub holds_page : Image → PagePtr → Bool
holds_page image pointer = bytes_eq (sha256 (sector_at image pointer.sector)) pointer.digest && is_chain_page
    (sector_at image pointer.sector)

-- the walk of a chain over so many pages at the most; nothing where the chain is damaged
abbrev pub walk : (most : ℕ) → Image → (sectors : ℕ) → (named : List ℕ) → PagePtr → Option Walked
walk zero image sectors named pointer = None
walk (suc most) image sectors named pointer =
    if is_null pointer then Some (record { named = named; records = [] })
    else (if is_open_to sectors named pointer.sector && holds_page image pointer
    then behind_records (chain_page_in (sector_at image pointer.sector)).records
    (walk most image sectors (named ++ pointer.sector ∷ []) (next_in (sector_at image pointer.sector)))
    else None)

-- the chain of a root on a disk of so many sectors; its pages are fewer than these
abbrev pub chain_in : Image → (sectors : ℕ) → (named : List ℕ) → (root : Option PagePtr) → Option Walked
chain_in image sectors named root = walk sectors image sectors named (pointer_or_null root)
