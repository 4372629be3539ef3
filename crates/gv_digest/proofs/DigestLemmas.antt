-- How long a digest is.
use Rattle.std.proofs.Common.{◌≡◌, ℕ, List, length, arith}
use Rattle.sha2.specs.Sha256.{sha256}
use Rattle.sha2.proofs.Facts256.{length-sha256}
use Rattle.hex.specs.Hex.{encode_lower, lower_digits}
use Rattle.hex.proofs.HexLemmas.{length-encode_with}

pub length_of_digest : (m : List ℕ) → length (encode_lower (sha256 m)) ≡ 64
length_of_digest m =
    let twice = length-encode_with lower_digits (sha256 m) in
    let bytes = length-sha256 m in
    omega (arith, twice, bytes)
