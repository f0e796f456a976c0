-- Why a digest has 32 bytes, each below 256: the proof of a law of the interface, which src/ cites.
-- Assumes nothing.
use Rattle.std.specs.Prelude.{◌≡◌, ℕ, zero, suc, ◌*◌, ◌/◌, ◌<◌, List, [], ◌∷◌, length, slice_index, refl}
use Rattle.std.proofs.Common.{ap, ◌∙◌, arith}
use Rattle.std.proofs.lemmas.Nat.{mod_below}
use Rattle.sha256.specs.Padding.{pad}
use Rattle.sha256.specs.Hash.{compress, intermediate, final, bytes, sha256}
use Rattle.sha256.specs.Laws.{Of32Bytes}

length-compress : (H M : List ℕ) → length (compress H M) ≡ 8
unfolding compress
length-compress H M = refl

length-intermediate : (p : List ℕ) (i : ℕ) → length (intermediate p i) ≡ 8
unfolding intermediate
length-intermediate p zero = refl
length-intermediate p (suc i) = length-compress (intermediate p i) _

pub length-bytes : (xs : List ℕ) → length (bytes xs) ≡ 4 * length xs
unfolding bytes
length-bytes [] = refl
length-bytes (x ∷ xs) = omega (arith, length-bytes xs)

bytes_below : (xs : List ℕ) (k : ℕ) → slice_index (bytes xs) k < 256
unfolding bytes
bytes_below [] k = omega arith
bytes_below (x ∷ xs) zero = mod_below _ 256 (omega arith)
bytes_below (x ∷ xs) (suc zero) = mod_below _ 256 (omega arith)
bytes_below (x ∷ xs) (suc (suc zero)) = mod_below _ 256 (omega arith)
bytes_below (x ∷ xs) (suc (suc (suc zero))) = mod_below _ 256 (omega arith)
bytes_below (x ∷ xs) (suc (suc (suc (suc k)))) = bytes_below xs k

pub of_32_bytes : Of32Bytes
unfolding sha256 final
of_32_bytes m =
    (length-bytes (final m) ∙ ap (λ (n : ℕ). 4 * n) (length-intermediate (pad m) (length (pad m) / 64)), bytes_below (final m))
