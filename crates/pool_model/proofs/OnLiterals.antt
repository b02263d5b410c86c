-- What a proof unfolds to compute keys by SHA-256, the command file and the report on literals.
use Rattle.std.specs.Prelude.{⊤}
use Rattle.std.specs.Fmt.{digits}
use Rattle.sha2.specs.Sha256.{compress, digest_bytes, first_words, hash_after, rounds, schedule, sha256}
use Rattle.hex.proofs.OnLiterals.{hex_on_literals}

unfoldable pub pool_on_literals : ⊤
unfolding digits hex_on_literals first_words schedule rounds compress hash_after digest_bytes sha256
pool_on_literals = tt
