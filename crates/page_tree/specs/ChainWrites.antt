-- How a chain is written: the bytes of its pages, the writes, and what these leave of an image.
use Rattle.std.specs.Prelude.{◌≡◌, ℕ, ◌+◌, ◌-◌, ◌*◌, ◌/◌, ◌≤◌, ◌⊎◌, ◌==◌, List, [], ◌∷◌, ◌++◌, length, take, drop, fold, slice_set, true, false, Option, Some, None, ⊤}
use Rattle.std.specs.List.{concat, list_any, AllByRecursion}
use Rattle.sha2.specs.Sha256.{sha256}
use Rattle.ddt_entry.specs.Bytes.{number_bytes, zeros}
use Rattle.disk_model.specs.Images.{Image, sector_at}
use Rattle.page_tree.specs.Pointers.{FitsPointer, null_pointer, pointer_bytes}
use Rattle.page_tree.specs.declared.pointer.PagePtr.{PagePtr}
use Rattle.page_tree.specs.Chains.{chain_text, record_len, page_records, ChainPage, pointer_or_null, is_open_to}

-- what stands before the records
unfoldable pub chain_head : ChainPage → List ℕ
chain_head page = chain_text ++ number_bytes 4 (length page.records) ++ pointer_bytes page.next

-- what a page is written as
unfoldable pub chain_page_bytes : ChainPage → List ℕ
chain_page_bytes page = chain_head page ++ concat page.records ++ zeros (4048 - record_len * length page.records)

-- a page that can be written: its pointer fits, and it has from 1 to 56 records of 72 bytes, 56 where another page follows
pub record FitsPage (page : ChainPage) : Type 0 where
  pub next : FitsPointer page.next
  pub some : 1 ≤ length page.records
  pub room : length page.records ≤ page_records
  pub full : (page.next ≡ null_pointer) ⊎ (length page.records ≡ page_records)
  pub records : AllByRecursion (λ bytes. length bytes ≡ record_len) page.records

-- the write of a page
pub record PageWrite : Type 0 where
  pub sector : ℕ
  pub bytes : List ℕ

abbrev pub write_page : Image → PageWrite → Image
write_page image write = slice_set image write.sector write.bytes

-- a chain as it is written: the pointer to its first page, and the writes of its pages, from the last to the first
pub record Chain : Type 0 where
  pub root : Option PagePtr
  pub writes : List PageWrite

-- the bytes of a page in front of a chain
abbrev pub page_before : (next : Option PagePtr) → (records : List (List ℕ)) → List ℕ
page_before next records = chain_page_bytes (record { next = pointer_or_null next; records = records })

-- a page in front of a chain, at this place
abbrev pub chained : (place : ℕ) → (records : List (List ℕ)) → Chain → Chain
chained place records chain = record {
  root = Some (record { sector = place; digest = sha256 (page_before chain.root records) });
  writes = chain.writes ++ record { sector = place; bytes = page_before chain.root records } ∷ [];
}

-- the chain of these records at these places, 56 records a page
abbrev pub chain_of : (places : List ℕ) → (records : List (List ℕ)) → Chain
chain_of [] records = record { root = None; writes = [] }
chain_of (place ∷ places) records = chained place (take page_records records) (chain_of places (drop page_records records))

-- how many pages so many records take
abbrev pub pages_for : (records : ℕ) → ℕ
pages_for records = (records + 55) / page_records

-- told contents after these writes
abbrev pub Written : Option Image → Option Image → List PageWrite → Type 0
Written None new writes = ⊤
Written (Some image) new writes = new ≡ Some (fold write_page image writes)

-- an image holds what these writes put into their sectors
abbrev pub HoldsWrites : Image → List PageWrite → Type 0
HoldsWrites image writes = AllByRecursion (λ write. sector_at image write.sector ≡ write.bytes) writes

-- images of one size that differ in none but these sectors
pub record SameBut (places : List ℕ) (old new : Image) : Type 0 where
  pub count : length new ≡ length old
  pub others : (at : ℕ) → list_any (λ place. place == at) places ≡ false → sector_at new at ≡ sector_at old at

-- told contents that differ in none but these sectors
abbrev pub MayTouchAll : Option Image → Option Image → (places : List ℕ) → Type 0
MayTouchAll None new places = ⊤
MayTouchAll (Some image) new places = (touched : Image) × (new ≡ Some touched) × SameBut places image touched

-- what writes of these sectors may leave
abbrev pub ChainLeaves : (places : List ℕ) → (old : Image → Type 0) → Image → Type 0
ChainLeaves places old c = (d : Image) × old d × SameBut places d c

-- places where a chain can stand: on the disk, outside the ring, each once, and none that is named yet
abbrev pub AreOpen : (sectors : ℕ) → (named places : List ℕ) → Type 0
AreOpen sectors named [] = ⊤
AreOpen sectors named (place ∷ places) = (is_open_to sectors named place ≡ true) × AreOpen sectors (named ++ place ∷ []) places
