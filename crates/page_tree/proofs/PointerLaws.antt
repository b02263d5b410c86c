-- Laws of pointers: what is spelled is read, and what is read is spelled.
use Rattle.std.proofs.Common.{◌≡◌, ℕ, zero, suc, ◌+◌, ◌*◌, ◌≤◌, List, [], ◌∷◌, ◌++◌, length, take, drop, refl, ap, ◌∙◌, append_assoc, arith}
use Rattle.std.specs.List.{flat_map, AllByRecursion}
use Rattle.std.proofs.lemmas.List.{length-append, length-drop, drop_at}
use Rattle.ddt_entry.specs.Bytes.{bytes_at, number_bytes, zeros, AreBytes}
use Rattle.page_tree.specs.Pointers.{FitsPointer, null_pointer, pointer_bytes, pointer_in, pointers_in}
use Rattle.page_tree.specs.declared.pointer.PagePtr.{PagePtr}
use Rattle.ddt_entry.proofs.Bytes.{length-number_bytes, length-bytes_at, bytes_at-behind, take-add, AreBytes-drop, AreBytes-bytes_at, number_at-is, number_at-lt, number_bytes-at_8}
use Rattle.page_tree.specs.declared.pointer.TheConstants.PagePtr.{NULL}

abbrev pointer_of : ℕ → List ℕ → PagePtr
pointer_of sector digest = record { sector = sector; digest = digest }

pub length-pointer_bytes : (pointer : PagePtr) → FitsPointer pointer → length (pointer_bytes pointer) ≡ 40
unfolding pointer_bytes
length-pointer_bytes pointer fits =
    omega (arith, length-append (number_bytes 8 pointer.sector) pointer.digest, length-number_bytes 8 pointer.sector, fits.digest_len)

-- a pointer that fits is read back, whatever follows it
pub pointer_in-pointer_bytes : (pointer : PagePtr) (rest : List ℕ) → FitsPointer pointer
    → pointer_in (pointer_bytes pointer ++ rest) ≡ pointer
unfolding pointer_in pointer_bytes
pointer_in-pointer_bytes pointer rest fits =
    let number = number_bytes 8 pointer.sector in
    let grouped : (number ++ pointer.digest) ++ rest ≡ number ++ (pointer.digest ++ rest) = append_assoc number pointer.digest rest in
    let front : bytes_at 8 0 ((number ++ pointer.digest) ++ rest) ≡ number =
    ap (bytes_at 8 0) grouped ∙ bytes_at-behind [] number (pointer.digest ++ rest) 0 8 refl (length-number_bytes 8 pointer.sector) in
    let back : bytes_at 32 8 ((number ++ pointer.digest) ++ rest) ≡ pointer.digest =
    ap (bytes_at 32 8) grouped ∙ bytes_at-behind number pointer.digest rest 8 32 (length-number_bytes 8 pointer.sector) fits.digest_len in
    let sector = number_at-is 8 0 pointer.sector ((number ++ pointer.digest) ++ rest) front fits.sector in
    ap (λ (n : ℕ). pointer_of n (bytes_at 32 8 ((number ++ pointer.digest) ++ rest))) sector
    ∙ ap (λ (d : List ℕ). pointer_of pointer.sector d) back

-- what is read fits
pub FitsPointer-pointer_in : (bytes : List ℕ) → AreBytes bytes → 40 ≤ length bytes → FitsPointer (pointer_in bytes)
unfolding pointer_in
FitsPointer-pointer_in bytes fits within = record {
  sector = number_at-lt 8 0 bytes fits;
  digest_len = length-bytes_at 32 8 bytes within;
  digest = AreBytes-bytes_at 32 8 bytes fits;
}

bytes_at-two : (first more : ℕ) (bytes : List ℕ) → bytes_at first 0 bytes ++ bytes_at more first bytes ≡ take (first + more) bytes
unfolding bytes_at
bytes_at-two first more bytes = take-add first more bytes

-- bytes are spelled by what is read of them
pub pointer_bytes-pointer_in : (bytes : List ℕ) → AreBytes bytes → 40 ≤ length bytes → pointer_bytes (pointer_in bytes) ≡ take 40 bytes
unfolding pointer_in pointer_bytes
pointer_bytes-pointer_in bytes fits within =
    ap (λ (xs : List ℕ). xs ++ bytes_at 32 8 bytes) (number_bytes-at_8 0 bytes fits (omega arith)) ∙ bytes_at-two 8 32 bytes

-- the null pointer of the code is that of the definitions
pub null-value : NULL ≡ null_pointer
null-value = refl

-- the null pointer is 40 zeros
pub pointer_bytes-null_pointer : pointer_bytes null_pointer ≡ zeros 40
unfolding pointer_bytes number_bytes zeros
pointer_bytes-null_pointer = refl

-- pointers that fit are read back, one behind the other, whatever follows them
pub pointers_in-flat_map : (pointers : List PagePtr) (rest : List ℕ) → AllByRecursion FitsPointer pointers
    → pointers_in (length pointers) (flat_map pointer_bytes pointers ++ rest) ≡ pointers
pointers_in-flat_map [] rest fits = refl
pointers_in-flat_map (pointer ∷ more) rest fits =
    let grouped : (pointer_bytes pointer ++ flat_map pointer_bytes more) ++ rest ≡ pointer_bytes
    pointer ++ (flat_map pointer_bytes more ++ rest) =
    append_assoc (pointer_bytes pointer) (flat_map pointer_bytes more) rest in
    let first = ap pointer_in grouped ∙ pointer_in-pointer_bytes pointer (flat_map pointer_bytes more ++ rest) fits.0 in
    let behind = ap (drop 40) grouped
    ∙ drop_at (pointer_bytes pointer) (flat_map pointer_bytes more ++ rest) 40 (length-pointer_bytes pointer fits.0) in
    let others = ap (pointers_in (length more)) behind ∙ pointers_in-flat_map more rest fits.1 in
    ap (λ (p : PagePtr). p ∷ pointers_in (length more) (drop 40 ((pointer_bytes pointer ++ flat_map pointer_bytes more) ++ rest))) first
    ∙ ap (λ (ps : List PagePtr). pointer ∷ ps) others

-- how long spelled pointers are
pub length-flat_map_pointers : (pointers : List PagePtr) → AllByRecursion FitsPointer pointers
    → length (flat_map pointer_bytes pointers) ≡ 40 * length pointers
length-flat_map_pointers [] fits = refl
length-flat_map_pointers (pointer ∷ more) fits =
    let here = length-pointer_bytes pointer fits.0 in
    let behind = length-flat_map_pointers more fits.1 in
    omega (arith, length-append (pointer_bytes pointer) (flat_map pointer_bytes more), here, behind)

-- the spelled pointers that were read are the bytes that they were read from
pub flat_map-pointers_in : (count : ℕ) (bytes : List ℕ) → AreBytes bytes → 40 * count ≤ length bytes
    → flat_map pointer_bytes (pointers_in count bytes) ≡ take (40 * count) bytes
flat_map-pointers_in zero bytes fits within = refl
flat_map-pointers_in (suc count) bytes fits within =
    let first = pointer_bytes-pointer_in bytes fits (omega arith) in
    let others = flat_map-pointers_in count (drop 40 bytes) (AreBytes-drop 40 bytes fits) (omega (arith, length-drop 40 bytes)) in
    let count-is : 40 + 40 * count ≡ 40 * suc count = omega arith in
    ap (λ (xs : List ℕ). xs ++ flat_map pointer_bytes (pointers_in count (drop 40 bytes))) first
    ∙ ap (λ (xs : List ℕ). take 40 bytes ++ xs) others
    ∙ take-add 40 (40 * count) bytes
    ∙ ap (λ (n : ℕ). take n bytes) count-is
