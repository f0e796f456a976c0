-- Why a digest has 32 bytes: the proof of a law of the interface, which src/ cites.
-- Assumes nothing.
use Rattle.std.specs.Prelude.{◌≡◌, ℕ, ◌+◌, ◌*◌, ◌≤◌, List, [], ◌∷◌, length, take, refl, zero, suc, ◌/◌, drop, replicate}
use Rattle.std.proofs.Common.{◌∙◌, ap, arith}
use Rattle.std.specs.List.{flat_map}
use Rattle.std.proofs.lemmas.List.{length-append, length-take-le}
use Rattle.sha3.specs.Sponge.{bytes, xored, absorbed, squeezed, padded, sponge}
use Rattle.sha3.specs.Keccak.{χ, ι, Rnd, rounds, keccak_f}
use Rattle.sha3.specs.Laws.{DigestLength}

pub length-joined : (f : ℕ → List ℕ) → ((x : ℕ) → length (f x) ≡ 8) → (xs : List ℕ) → length (flat_map f xs) ≡ 8 * length xs
length-joined f e [] = refl
length-joined f e (x ∷ xs) =
    let ih = length-joined f e xs in
    let l = length-append (f x) (flat_map f xs) in
    omega (arith, e x)

pub length-bytes : (A : List ℕ) → length (flat_map bytes A) ≡ 8 * length A
length-bytes = length-joined bytes (λ a. refl)

-- the first 32 bytes are those of the first four lanes
pub first_four : (A : List ℕ) → 4 ≤ length A → take 32 (flat_map bytes A) ≡ flat_map bytes (take 4 A)
first_four [] h = let z : ⊥ = omega arith in absurd z
first_four (a ∷ []) h = let z : ⊥ = omega arith in absurd z
first_four (a ∷ b ∷ []) h = let z : ⊥ = omega arith in absurd z
first_four (a ∷ b ∷ c ∷ []) h = let z : ⊥ = omega arith in absurd z
first_four (a ∷ b ∷ c ∷ d ∷ A) h = refl

lanes_permuted : (A : List ℕ) → length (keccak_f A) ≡ 25
unfolding χ ι Rnd rounds keccak_f
lanes_permuted A = refl

lanes_absorbed : (n : ℕ) (A m : List ℕ) → length A ≡ 25 → length (absorbed n A m) ≡ 25
unfolding absorbed
lanes_absorbed zero A m l = l
lanes_absorbed (suc n) A m l = lanes_absorbed n (keccak_f (xored A (take 136 m))) (drop 136 m) (lanes_permuted (xored A (take 136 m)))

length-squeezed : (A : List ℕ) → length A ≡ 25 → length (squeezed A) ≡ 32
unfolding squeezed
length-squeezed A l =
    let four : 4 ≤ length A = omega arith in
    let n = length-take-le 4 A four in
    ap length (first_four A four) ∙ length-bytes (take 4 A) ∙ ap (λ (k : ℕ). 8 * k) n

pub digest_length_lem : DigestLength
unfolding sponge
digest_length_lem m =
    length-squeezed (absorbed (length m / 136 + 1) (replicate 25 0) (padded m))
    (lanes_absorbed (length m / 136 + 1) (replicate 25 0) (padded m) refl)
