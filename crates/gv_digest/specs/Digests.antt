-- What a digest of bytes is.
use Rattle.std.specs.Prelude.{ℕ, List}
use Rattle.sha2.specs.Sha256.{sha256}
use Rattle.hex.specs.Hex.{encode_lower}

-- their SHA-256, each of its 32 bytes as two hexadecimal digits in lower case, the higher one first
abbrev pub digest_of : List ℕ → List ℕ
digest_of bytes = encode_lower (sha256 bytes)
