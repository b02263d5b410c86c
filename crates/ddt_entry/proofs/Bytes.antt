-- Laws of bytes: what stands behind a front, and numbers that are read back or spelled again.
use Rattle.std.proofs.Common.{◌≡◌, ℕ, zero, suc, ◌+◌, ◌-◌, ◌^◌, ◌/◌, ◌<◌, ◌≤◌, List, [], ◌∷◌, ◌++◌, append_assoc, length, get_or, take, drop, replicate, refl, sym, ap, ◌∙◌, inl, inr, arith, mod-lt}
use Rattle.std.specs.Int.{w32, w64, byte_at, bytes_low_first, from_le_bytes}
use Rattle.std.specs.List.{concat, AllByRecursion}
use Rattle.std.proofs.lemmas.Bool.{cases_lt}
use Rattle.std.proofs.lemmas.List.{append-nil, take_at, drop_at, take-take, drop-take, take-append-drop, take-append-le, drop-append-le, length-take, length-drop, length-replicate, replicate_more, get_or-take, get_or-drop, get_or_past}
use Rattle.std.proofs.lemmas.Nat.{le_bytes_4, le_bytes_8}
use Rattle.byteorder.specs.Endian.{little_from, little_number, little_bytes}
use Rattle.byteorder.specs.Numbers.{little_from-take, little_from-lt, little_number-reads_back, length-bytes_low_first}
use Rattle.ddt_entry.specs.Bytes.{bytes_at, number_at, number_bytes, zeros, AreBytes}

-- ---- lengths

pub length-number_bytes : (len number : ℕ) → length (number_bytes len number) ≡ len
unfolding number_bytes
length-number_bytes len number = length-bytes_low_first 0 len number

pub length-zeros : (len : ℕ) → length (zeros len) ≡ len
unfolding zeros
length-zeros len = length-replicate len 0

pub length-bytes_at : (len offset : ℕ) (bytes : List ℕ) → offset + len ≤ length bytes → length (bytes_at len offset bytes) ≡ len
unfolding bytes_at
length-bytes_at len offset bytes within = omega (arith, length-take len (drop offset bytes), length-drop offset bytes)

-- ---- parts

-- a part that stands behind a front
pub bytes_at-behind : (front part rest : List ℕ) (offset len : ℕ) → length front ≡ offset → length part ≡ len
    → bytes_at len offset (front ++ (part ++ rest)) ≡ part
unfolding bytes_at
bytes_at-behind front part rest offset len before here =
    ap (take len) (drop_at front (part ++ rest) offset before) ∙ take_at part rest len here

-- what follows the bytes changes no part of them
pub bytes_at-front : (len offset : ℕ) (bytes rest : List ℕ) → offset + len ≤ length bytes
    → bytes_at len offset (bytes ++ rest) ≡ bytes_at len offset bytes
unfolding bytes_at
bytes_at-front len offset bytes rest within =
    ap (take len) (drop-append-le offset bytes rest (omega arith))
    ∙ take-append-le len (drop offset bytes) rest (omega (arith, length-drop offset bytes))

-- two parts that follow each other
pub take-add : (first more : ℕ) (bytes : List ℕ) → take first bytes ++ take more (drop first bytes) ≡ take (first + more) bytes
take-add first more bytes =
    ap (λ (xs : List ℕ). xs ++ take more (drop first bytes)) (sym (take-take first (first + more) bytes (omega arith)))
    ∙ ap (λ (xs : List ℕ). take first (take (first + more) bytes) ++ xs) (sym (drop-take first more bytes))
    ∙ take-append-drop first (take (first + more) bytes)

pub AreBytes-drop : (n : ℕ) (bytes : List ℕ) → AreBytes bytes → AreBytes (drop n bytes)
AreBytes-drop n bytes fits i = rw (get_or-drop n bytes i 0) (fits (n + i))

pub AreBytes-bytes_at : (len offset : ℕ) (bytes : List ℕ) → AreBytes bytes → AreBytes (bytes_at len offset bytes)
unfolding bytes_at
AreBytes-bytes_at len offset bytes fits i =
    elim (cases_lt i len) [
      | inl lt ↦ rw (get_or-take len (drop offset bytes) i 0 lt, get_or-drop offset bytes i 0) (fits (offset + i))
      | inr le ↦ rw (get_or_past (take len (drop offset bytes)) i 0 (omega (arith, length-take len (drop offset bytes)))) (omega arith)
    ]

-- what two lists of bytes make is bytes
pub AreBytes-append : (xs ys : List ℕ) → AreBytes xs → AreBytes ys → AreBytes (xs ++ ys)
AreBytes-append [] ys all_xs all_ys i = all_ys i
AreBytes-append (x ∷ xs) ys all_xs all_ys zero = all_xs 0
AreBytes-append (x ∷ xs) ys all_xs all_ys (suc i) = AreBytes-append xs ys (λ k. all_xs (suc k)) all_ys i

pub AreBytes-concat : (parts : List (List ℕ)) → AllByRecursion AreBytes parts → AreBytes (concat parts)
AreBytes-concat [] fits i = omega arith
AreBytes-concat (part ∷ parts) fits i = AreBytes-append part (concat parts) fits.0 (AreBytes-concat parts fits.1) i

byte_at-lt : (k n : ℕ) → byte_at k n < 256
byte_at-lt zero n = mod-lt n (omega arith)
byte_at-lt (suc k) n = mod-lt (n / 256 ^ suc k) (omega arith)

AreBytes-low_first : (k m n : ℕ) → AreBytes (bytes_low_first k m n)
AreBytes-low_first k zero n i = omega arith
AreBytes-low_first k (suc m) n zero = byte_at-lt k n
AreBytes-low_first k (suc m) n (suc i) = AreBytes-low_first (suc k) m n i

pub AreBytes-number_bytes : (len number : ℕ) → AreBytes (number_bytes len number)
unfolding number_bytes
AreBytes-number_bytes len number = AreBytes-low_first 0 len number

-- ---- numbers

pub number_at-front : (len offset : ℕ) (bytes rest : List ℕ) → offset + len ≤ length bytes
    → number_at len offset (bytes ++ rest) ≡ number_at len offset bytes
unfolding number_at
number_at-front len offset bytes rest within = ap (little_number len) (bytes_at-front len offset bytes rest within)

-- a number that the first bytes of a part spell is the number at the part's offset
pub number_at-drop : (len offset : ℕ) (bytes : List ℕ) → little_number len (drop offset bytes) ≡ number_at len offset bytes
unfolding number_at bytes_at
number_at-drop len offset bytes = sym (little_from-take 0 len len (drop offset bytes) (omega arith))

-- a number that is spelled at an offset is read there
pub number_at-is : (len offset number : ℕ) (bytes : List ℕ) → bytes_at len offset bytes ≡ number_bytes len number → number < 256 ^ len
    → number_at len offset bytes ≡ number
unfolding number_at number_bytes
number_at-is len offset number bytes is fits =
    ap (little_number len) (is ∙ sym (append-nil (little_bytes len number))) ∙ little_number-reads_back len number [] fits

pub number_at-lt : (len offset : ℕ) (bytes : List ℕ) → AreBytes bytes → number_at len offset bytes < 256 ^ len
unfolding number_at
number_at-lt len offset bytes fits = little_from-lt 0 len (bytes_at len offset bytes) (AreBytes-bytes_at len offset bytes fits)

little_number-4 : (bytes : List ℕ) → little_number 4 bytes ≡ from_le_bytes w32 bytes
little_number-4 bytes = omega arith

little_number-8 : (bytes : List ℕ) → little_number 8 bytes ≡ from_le_bytes w64 bytes
little_number-8 bytes = omega arith

-- a number of 4 bytes that was read at an offset spells what stands there
pub number_bytes-at_4 : (offset : ℕ) (bytes : List ℕ) → AreBytes bytes → offset + 4 ≤ length bytes
    → number_bytes 4 (number_at 4 offset bytes) ≡ bytes_at 4 offset bytes
unfolding number_at number_bytes
number_bytes-at_4 offset bytes fits within =
    le_bytes_4 (bytes_at 4 offset bytes) _ (length-bytes_at 4 offset bytes within) (AreBytes-bytes_at 4 offset bytes fits)
    (little_number-4 (bytes_at 4 offset bytes))

-- the same of 8 bytes
pub number_bytes-at_8 : (offset : ℕ) (bytes : List ℕ) → AreBytes bytes → offset + 8 ≤ length bytes
    → number_bytes 8 (number_at 8 offset bytes) ≡ bytes_at 8 offset bytes
unfolding number_at number_bytes
number_bytes-at_8 offset bytes fits within =
    le_bytes_8 (bytes_at 8 offset bytes) _ (length-bytes_at 8 offset bytes within) (AreBytes-bytes_at 8 offset bytes fits)
    (little_number-8 (bytes_at 8 offset bytes))

zero_from : (i n : ℕ) (bytes : List ℕ) → little_from i n bytes ≡ 0 → (k : ℕ) → i ≤ k → k < i + n → get_or bytes k 0 ≡ 0
zero_from i zero bytes none k from below = absurd (omega arith)
zero_from i (suc n) bytes none k from below =
    elim (cases_lt i k) [
      | inl lt ↦ zero_from (suc i) n bytes (omega (arith, none)) k (omega arith) (omega arith)
      | inr le ↦
          let here : k ≡ i = omega arith in
          let first : get_or bytes i 0 ≡ 0 = omega (arith, none) in
          ap (λ (j : ℕ). get_or bytes j 0) here ∙ first
    ]

from_zero : (i n : ℕ) (bytes : List ℕ) → ((k : ℕ) → i ≤ k → k < i + n → get_or bytes k 0 ≡ 0) → little_from i n bytes ≡ 0
from_zero i zero bytes each = refl
from_zero i (suc n) bytes each =
    let first : get_or bytes i 0 ≡ 0 = each i (omega arith) (omega arith) in
    let others = from_zero (suc i) n bytes (λ k from below. each k (omega arith) (omega arith)) in
    omega (arith, first, others)

-- each byte of a number that is 0 is 0
pub zero_bytes : (len offset : ℕ) (bytes : List ℕ) → number_at len offset bytes ≡ 0 → (i : ℕ) → offset ≤ i → i < offset + len
    → get_or bytes i 0 ≡ 0
zero_bytes len offset bytes none i from below =
    let there : i ≡ offset + (i - offset) = omega arith in
    ap (λ (j : ℕ). get_or bytes j 0) there ∙ sym (get_or-drop offset bytes (i - offset) 0)
    ∙ zero_from 0 len (drop offset bytes) (number_at-drop len offset bytes ∙ none) (i - offset) (omega arith) (omega arith)

-- a number of bytes that are 0 is 0
pub zero_number : (len offset : ℕ) (bytes : List ℕ) → ((i : ℕ) → offset ≤ i → i < offset + len → get_or bytes i 0 ≡ 0)
    → number_at len offset bytes ≡ 0
zero_number len offset bytes each =
    sym (number_at-drop len offset bytes)
    ∙ from_zero 0 len (drop offset bytes) (λ k from below. get_or-drop offset bytes k 0 ∙ each (offset + k) (omega arith) (omega arith))

-- ---- padding

-- before the first zero
pub zeros_none : (front : List ℕ) (n : ℕ) → front ≡ front ++ zeros (n - n)
unfolding zeros
zeros_none front n =
    let none : n - n ≡ 0 = omega arith in
    sym (ap (λ (k : ℕ). front ++ replicate k 0) none ∙ append-nil front)

-- one more zero
pub zeros_more : (front : List ℕ) (i n : ℕ) → n ≤ i → (front ++ zeros (i - n)) ++ 0 ∷ [] ≡ front ++ zeros (i + 1 - n)
unfolding zeros
zeros_more front i n le =
    let next : i - n + 1 ≡ i + 1 - n = omega arith in
    append_assoc front (replicate (i - n) 0) (0 ∷ [])
    ∙ ap (λ (xs : List ℕ). front ++ xs) (replicate_more (i - n) 0 ∙ ap (λ (k : ℕ). replicate k 0) next)
