-- How long a digest is.
use Rattle.std.proofs.Common.{◌≡◌, ℕ, zero, suc, ◌*◌, List, length, slice_index, refl, arith}
use Rattle.std.specs.Int.{w32, to_be_bytes}
use Rattle.std.proofs.lemmas.List.{length-append}
use Rattle.sha2.specs.Sha256.{digest_bytes, final_hash, initial_hash_256, sha256}

length-digest_bytes : (hash : List ℕ) (n : ℕ) → length (digest_bytes hash n) ≡ 4 * n
unfolding digest_bytes
length-digest_bytes hash zero = refl
length-digest_bytes hash (suc n) =
    let front = length-digest_bytes hash n in
    omega (arith, length-append (digest_bytes hash n) (to_be_bytes w32 (slice_index hash n)), front)

pub length-sha256 : (message : List ℕ) → length (sha256 message) ≡ 32
unfolding sha256
length-sha256 message = length-digest_bytes (final_hash initial_hash_256 message) 8
