-- What a digest is: 32 bytes.
use Rattle.std.proofs.Common.{◌≡◌, ℕ, zero, suc, ◌*◌, ◌/◌, ◌^◌, ◌<◌, List, [], ◌∷◌, length, slice_index, refl, arith, mod-lt}
use Rattle.std.specs.Int.{w32, byte_at, to_be_bytes}
use Rattle.std.proofs.lemmas.List.{length-append}
use Rattle.sha2.specs.Sha256.{digest_bytes, final_hash, initial_hash_256, sha256}
use Rattle.ddt_entry.specs.Bytes.{AreBytes}
use Rattle.ddt_entry.proofs.Bytes.{AreBytes-append}

length-digest_bytes : (hash : List ℕ) (n : ℕ) → length (digest_bytes hash n) ≡ 4 * n
unfolding digest_bytes
length-digest_bytes hash zero = refl
length-digest_bytes hash (suc n) =
    let front = length-digest_bytes hash n in
    omega (arith, length-append (digest_bytes hash n) (to_be_bytes w32 (slice_index hash n)), front)

pub length-sha256 : (message : List ℕ) → length (sha256 message) ≡ 32
unfolding sha256
length-sha256 message = length-digest_bytes (final_hash initial_hash_256 message) 8

byte_at-lt : (k n : ℕ) → byte_at k n < 256
byte_at-lt zero n = mod-lt n (omega arith)
byte_at-lt (suc k) n = mod-lt (n / 256 ^ suc k) (omega arith)

AreBytes-four : (a b c d : ℕ) → a < 256 → b < 256 → c < 256 → d < 256 → AreBytes (a ∷ b ∷ c ∷ d ∷ [])
AreBytes-four a b c d first second third fourth zero = first
AreBytes-four a b c d first second third fourth (suc zero) = second
AreBytes-four a b c d first second third fourth (suc (suc zero)) = third
AreBytes-four a b c d first second third fourth (suc (suc (suc zero))) = fourth
AreBytes-four a b c d first second third fourth (suc (suc (suc (suc i)))) = omega arith

-- the four bytes of a word
AreBytes-word : (word : ℕ) → AreBytes (to_be_bytes w32 word)
AreBytes-word word = AreBytes-four (byte_at 3 word) (byte_at 2 word) (byte_at 1 word) (byte_at 0 word) (byte_at-lt 3 word)
    (byte_at-lt 2 word) (byte_at-lt 1 word) (byte_at-lt 0 word)

AreBytes-digest_bytes : (hash : List ℕ) (n : ℕ) → AreBytes (digest_bytes hash n)
unfolding digest_bytes
AreBytes-digest_bytes hash zero i = omega arith
AreBytes-digest_bytes hash (suc n) i = AreBytes-append (digest_bytes hash n) (to_be_bytes w32 (slice_index hash n))
    (AreBytes-digest_bytes hash n) (AreBytes-word (slice_index hash n)) i

pub AreBytes-sha256 : (message : List ℕ) → AreBytes (sha256 message)
unfolding sha256
AreBytes-sha256 message = AreBytes-digest_bytes (final_hash initial_hash_256 message) 8
