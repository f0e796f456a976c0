-- The steps at each bit A[x, y, z].
-- Assumes nothing.
use Rattle.std.proofs.Common.{◌≡◌, ℕ, ◌+◌, ◌*◌, ◌/◌, ◌%◌, ◌^◌, ◌<◌, List, get_or, ap, ◌∙◌, mod-lt, arith, lit<}
use lib.Bits.{bit_and, bit_xor, xor_lt}
use Rattle.std.proofs.lemmas.List.FromFn.{get_or-map-range_with_len}
use Rattle.sha3.specs.Keccak.{lane, state, rotated, flipped, parity, effect, offsets, θ, ρ, π, χ}
use Rattle.sha3.specs.Laws.{ThetaByBits, RhoByBits, PiByBits, ChiByBits}
use Rattle.sha3.specs.Rules.{bit, at, ◌⊕◌, C, D}
use Rattle.sha3.proofs.Bitwise.{xor_bit, and_bit, rotated_bit, flipped_bit}

lane_state : (f : ℕ → ℕ → ℕ) (x y : ℕ) → x < 5 → y < 5 → lane (state f) x y ≡ f x y
lane_state f x y hx hy =
    let i : x + 5 * y < 25 = omega arith in
    let p : (x + 5 * y) % 5 ≡ x = omega arith in
    let q : (x + 5 * y) / 5 ≡ y = omega arith in
    get_or-map-range_with_len (λ (k : ℕ). f (k % 5) (k / 5)) 0 25 (x + 5 * y) (x + 5 * y) 0 i (omega arith)
    ∙ ap (λ (k : ℕ). f k ((x + 5 * y) / 5)) p
    ∙ ap (f x) q

-- C[x, z]
parity_bit : (A : List ℕ) (x z : ℕ) → bit (parity A x) z ≡ C A x z
parity_bit A x z = simp xor_bit

parity_lt : (A : List ℕ) → ((i : ℕ) → get_or A i 0 < 2 ^ 64) → (x : ℕ) → parity A x < 2 ^ 64
parity_lt A l x =
    xor_lt 64 _ (lane A x 4) (xor_lt 64 _ (lane A x 3) (xor_lt 64 _ (lane A x 2) (xor_lt 64 (lane A x 0) (lane A x 1) (l _) (l _)) (l _)) (l _)) (l _)

-- D[x, z]
effect_bit : (A : List ℕ) → ((i : ℕ) → get_or A i 0 < 2 ^ 64) → (x z : ℕ) → z < 64 → bit (effect A x) z ≡ D A x z
effect_bit A l x z h =
    let v = (z + 63) % 64 in
    let c = parity A ((x + 1) % 5) in
    let e : z ≡ (v + 1) % 64 = omega arith in
    xor_bit (parity A ((x + 4) % 5)) (rotated c 1) z
    ∙ ap (λ (k : ℕ). bit (parity A ((x + 4) % 5)) z ⊕ bit (rotated c 1) k) e
    ∙ ap (λ (b : ℕ). bit (parity A ((x + 4) % 5)) z ⊕ b) (rotated_bit c 1 v (parity_lt A l ((x + 1) % 5)) (mod-lt (z + 63) (lit< tt)))
    ∙ ap (λ (b : ℕ). b ⊕ bit c v) (parity_bit A ((x + 4) % 5) z)
    ∙ ap (λ (b : ℕ). C A ((x + 4) % 5) z ⊕ b) (parity_bit A ((x + 1) % 5) v)

pub theta : ThetaByBits
unfolding θ
theta A l x y z hx hy hz =
    ap (λ (v : ℕ). bit v z) (lane_state (λ u v. bit_xor (lane A u v) (effect A u)) x y hx hy)
    ∙ xor_bit (lane A x y) (effect A x) z
    ∙ ap (λ (b : ℕ). at A x y z ⊕ b) (effect_bit A l x z hz)

pub rho : RhoByBits
unfolding ρ
rho A l x y z hx hy hz =
    ap (λ (v : ℕ). bit v ((z + lane offsets x y) % 64)) (lane_state (λ u v. rotated (lane A u v) (lane offsets u v)) x y hx hy)
    ∙ rotated_bit (lane A x y) (lane offsets x y) z (l _) hz

pub pi : PiByBits
unfolding π
pi A l x y z hx hy hz = ap (λ (v : ℕ). bit v z) (lane_state (λ u v. lane A ((u + 3 * v) % 5) u) x y hx hy)

pub chi : ChiByBits
unfolding χ
chi A l x y z hx hy hz =
    let b = lane A ((x + 1) % 5) y in
    let c = lane A ((x + 2) % 5) y in
    ap (λ (v : ℕ). bit v z) (lane_state (λ u v. bit_xor (lane A u v) (bit_and (flipped (lane A ((u + 1) % 5) v)) (lane A ((u + 2) % 5) v))) x y hx hy)
    ∙ xor_bit (lane A x y) (bit_and (flipped b) c) z
    ∙ ap (λ (v : ℕ). at A x y z ⊕ v) (and_bit (flipped b) c z ∙ ap (λ (v : ℕ). v * bit c z) (flipped_bit b z (l _) hz))
