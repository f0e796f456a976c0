-- What the operations on lanes do at each bit.
-- Assumes nothing.
use Rattle.std.proofs.Common.{◌≡◌, ℕ, zero, suc, ◌+◌, ◌-◌, ◌*◌, ◌/◌, ◌%◌, ◌^◌, ◌<◌, ◌≤◌, sym, refl, ap, ◌∙◌, subst, ⊎_elim, add-zero, mod-lt, mod-eq_of_lt, mul-one, div-one, arith, lit<}
use native.Mathlib.Nat.{mul-mod_left}
use lib.Bits.{bit_and, bit_or, bit_xor, xor_add_and, or_self}
use lib.Pow.{ones_split, ones_lt}
use Rattle.std.proofs.lemmas.Nat.{shl-shr, shr-shr, mod-pow-add, field_of, and_mask, or_shifted, and_shr, xor_shr, and_mod, xor_mod, mod-mul-add, shr_below, shr_high, mod_low}
use Rattle.std.proofs.lemmas.Bool.{cases_lt}
use Rattle.sha3.specs.Keccak.{rotated, flipped}
use Rattle.sha3.specs.Rules.{bit}

-- the bits below n of a number modulo 2 ^ n
bit_mod : (x n p : ℕ) → p < n → bit (x % 2 ^ n) p ≡ bit x p
bit_mod x n p h =
    let j = n - p - 1 in
    let e : n ≡ (j + 1) + p = omega arith in
    ap (λ (k : ℕ). bit (x % 2 ^ k) p) e
    ∙ ap (λ (y : ℕ). y % 2) (field_of x (j + 1) p ∙ mod-pow-add (x / 2 ^ p) j 1)
    ∙ mod-mul-add (x / 2 ^ p / 2 % 2 ^ j) 2 (x / 2 ^ p % 2) (mod-lt (x / 2 ^ p) (lit< tt))

-- two bits
small : (P : ℕ → Type 0) → P 0 → P 1 → (x : ℕ) → x < 2 → P x
small P p q zero h = p
small P p q (suc zero) h = q
small P p q (suc (suc x)) h = let z : ⊥ = omega arith in absurd z

xor_two : (x y : ℕ) → x < 2 → y < 2 → bit_xor x y % 2 ≡ (x + y) % 2
xor_two x y h k =
    small (λ u. bit_xor u y % 2 ≡ (u + y) % 2)
    (small (λ v. bit_xor 0 v % 2 ≡ (0 + v) % 2) refl refl y k)
    (small (λ v. bit_xor 1 v % 2 ≡ (1 + v) % 2) refl refl y k)
    x h

and_two : (x y : ℕ) → x < 2 → y < 2 → bit_and x y % 2 ≡ x * y
and_two x y h k =
    small (λ u. bit_and u y % 2 ≡ u * y)
    (small (λ v. bit_and 0 v % 2 ≡ 0 * v) refl refl y k)
    (small (λ v. bit_and 1 v % 2 ≡ 1 * v) refl refl y k)
    x h

below : (a z : ℕ) → bit a z < 2
below a z = mod-lt (a / 2 ^ z) (lit< tt)

twice : (x : ℕ) → x % 2 ≡ x % 2 % 2
twice x = omega arith

pub xor_bit : (a b z : ℕ) → bit (bit_xor a b) z ≡ (bit a z + bit b z) % 2
xor_bit a b z =
    ap (λ (x : ℕ). x % 2) (xor_shr a b z)
    ∙ twice (bit_xor (a / 2 ^ z) (b / 2 ^ z))
    ∙ ap (λ (x : ℕ). x % 2) (xor_mod (a / 2 ^ z) (b / 2 ^ z) 1)
    ∙ xor_two (bit a z) (bit b z) (below a z) (below b z)

pub and_bit : (a b z : ℕ) → bit (bit_and a b) z ≡ bit a z * bit b z
and_bit a b z =
    ap (λ (x : ℕ). x % 2) (and_shr a b z)
    ∙ twice (bit_and (a / 2 ^ z) (b / 2 ^ z))
    ∙ ap (λ (x : ℕ). x % 2) (and_mod (a / 2 ^ z) (b / 2 ^ z) 1)
    ∙ and_two (bit a z) (bit b z) (below a z) (below b z)

module _ (a n z : ℕ) (lane : a < 2 ^ 64) (some : 0 < n) (below : n < 64) (at : z < 64) where
  turned : rotated a n ≡ a % 2 ^ (64 - n) * 2 ^ n + a / 2 ^ (64 - n)
  turned =
      let k = 64 - n in
      let e : n % 64 ≡ n = omega arith in
      let f : k % 64 ≡ k = omega arith in
      let g : k + n ≡ 64 = omega arith in
      let h : n + k ≡ 64 = omega arith in
      let low : a / 2 ^ k < 2 ^ n = shr_below a n k (subst (λ m. a < 2 ^ m) (sym h) lane) in
      let high : (a * 2 ^ n) % 2 ^ 64 ≡ a % 2 ^ k * 2 ^ n =
      ap (λ (m : ℕ). (a * 2 ^ n) % 2 ^ m) (sym g)
      ∙ mod-pow-add (a * 2 ^ n) k n
      ∙ ap (λ (x : ℕ). x % 2 ^ k * 2 ^ n + (a * 2 ^ n) % 2 ^ n) (shl-shr a n)
      ∙ ap (λ (x : ℕ). a % 2 ^ k * 2 ^ n + x) (mul-mod_left a (2 ^ n))
      ∙ add-zero (a % 2 ^ k * 2 ^ n) in
      ap (λ (m : ℕ). bit_or ((a * 2 ^ m) % 2 ^ 64) (a / 2 ^ ((64 - m) % 64))) e
      ∙ ap (λ (m : ℕ). bit_or ((a * 2 ^ n) % 2 ^ 64) (a / 2 ^ m)) f
      ∙ ap (λ (x : ℕ). bit_or x (a / 2 ^ k)) high
      ∙ or_shifted (a % 2 ^ k) n (a / 2 ^ k) low

  turned_bit : bit (rotated a n) ((z + n) % 64) ≡ bit a z
  turned_bit =
      let k = 64 - n in
      let q = a % 2 ^ k in
      let lo = a / 2 ^ k in
      let h : n + k ≡ 64 = omega arith in
      let low : lo < 2 ^ n = shr_below a n k (subst (λ m. a < 2 ^ m) (sym h) lane) in
      let up : z < k → bit (rotated a n) ((z + n) % 64) ≡ bit a z =
      λ lt.
      let e : (z + n) % 64 ≡ n + z = omega arith in
      ap (λ (x : ℕ). bit x ((z + n) % 64)) turned
      ∙ ap (λ (m : ℕ). bit (q * 2 ^ n + lo) m) e
      ∙ ap (λ (x : ℕ). x % 2) (sym (shr-shr (q * 2 ^ n + lo) n z))
      ∙ ap (λ (x : ℕ). x / 2 ^ z % 2) (shr_high q n lo low)
      ∙ bit_mod a k z lt in
      let round : k ≤ z → bit (rotated a n) ((z + n) % 64) ≡ bit a z =
      λ le.
      let p = z - k in
      let e : (z + n) % 64 ≡ p = omega arith in
      let f : k + p ≡ z = omega arith in
      let lt : p < n = omega arith in
      ap (λ (x : ℕ). bit x ((z + n) % 64)) turned
      ∙ ap (λ (m : ℕ). bit (q * 2 ^ n + lo) m) e
      ∙ sym (bit_mod (q * 2 ^ n + lo) n p lt)
      ∙ ap (λ (x : ℕ). bit x p) (mod_low q n lo low)
      ∙ ap (λ (x : ℕ). x % 2) (shr-shr a k p)
      ∙ ap (bit a) f in
      ⊎_elim up round (cases_lt z k)

turned_any : (a n z : ℕ) → a < 2 ^ 64 → n < 64 → z < 64 → bit (rotated a n) ((z + n) % 64) ≡ bit a z
turned_any a zero z l h at =
    let e : (z + 0) % 64 ≡ z = omega arith in
    let one : (a * 1) % 2 ^ 64 ≡ a = ap (λ (x : ℕ). x % 2 ^ 64) (mul-one a) ∙ mod-eq_of_lt l in
    ap (bit (rotated a 0)) e
    ∙ ap (λ (x : ℕ). bit (bit_or x (a / 1)) z) one
    ∙ ap (λ (x : ℕ). bit (bit_or a x) z) (div-one a)
    ∙ ap (λ (x : ℕ). bit x z) (or_self a)
turned_any a (suc n) z l h at = turned_bit a (suc n) z l (omega arith) h at

pub rotated_bit : (a n z : ℕ) → a < 2 ^ 64 → z < 64 → bit (rotated a n) ((z + n) % 64) ≡ bit a z
rotated_bit a n z l at =
    let m = n % 64 in
    let lt : m < 64 = mod-lt n (lit< tt) in
    let e : (z + n) % 64 ≡ (z + m) % 64 = omega arith in
    let same : m ≡ m % 64 = sym (mod-eq_of_lt lt) in
    ap (λ (k : ℕ). bit (bit_or ((a * 2 ^ k) % 2 ^ 64) (a / 2 ^ ((64 - k) % 64))) ((z + n) % 64)) same
    ∙ ap (bit (rotated a m)) e
    ∙ turned_any a m z l lt at

all_ones : (z : ℕ) → z < 64 → bit (2 ^ 64 - 1) z ≡ 1
all_ones z h =
    let j = 63 - z in
    let e : 64 ≡ (j + 1) + z = omega arith in
    ap (λ (m : ℕ). bit (2 ^ m - 1) z) e
    ∙ ap (λ (x : ℕ). x / 2 ^ z % 2) (ones_split (j + 1) z)
    ∙ ap (λ (x : ℕ). x % 2) (shr_high (2 ^ (j + 1) - 1) z (2 ^ z - 1) (ones_lt z) ∙ ones_split j 1)
    ∙ mod-mul-add (2 ^ j - 1) 2 1 (lit< tt)

pub flipped_bit : (a z : ℕ) → a < 2 ^ 64 → z < 64 → bit (flipped a) z ≡ (bit a z + 1) % 2
flipped_bit a z l h =
    let both : bit_and a (2 ^ 64 - 1) ≡ a = and_mask a 64 ∙ mod-eq_of_lt l in
    let sum = xor_add_and a (2 ^ 64 - 1) in
    let e : flipped a ≡ bit_xor a (2 ^ 64 - 1) = omega arith in
    ap (λ (x : ℕ). bit x z) e
    ∙ xor_bit a (2 ^ 64 - 1) z
    ∙ ap (λ (x : ℕ). (bit a z + x) % 2) (all_ones z h)
