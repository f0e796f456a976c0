-- The padding: its length, and its bits.
-- Assumes nothing.
use Rattle.std.proofs.Common.{◌≡◌, ℕ, zero, suc, ◌+◌, ◌-◌, ◌*◌, ◌/◌, ◌%◌, List, [], ◌∷◌, ◌++◌, length, replicate, sym, refl, ap, ◌∙◌, arith}
use lib.ListN.{length-replicate}
use Rattle.std.proofs.lemmas.List.{append_assoc, length-append, replicate-append-replicate}
use Rattle.sha3.specs.Laws.{WholeBlocks, LeastPadding, PaddingBits}
use Rattle.sha3.specs.Rules.{octet, bits}
use Rattle.sha3.specs.Sponge.{padding, padded}
use Rattle.sha3.specs.Sized.{length-joined}
use Rattle.std.proofs.lemmas.Grind.{flat_map-append}

pub length-padding : (k : ℕ) → length (padding k) ≡ k + 1
length-padding zero = refl
length-padding (suc k) =
    let a = length-append {A = ℕ} (replicate k 0) (0x80 ∷ []) in
    let b = length-replicate {A = ℕ} k 0 in
    omega arith

pub length-padded : (m : List ℕ) → length (padded m) ≡ 136 * (length m / 136 + 1)
unfolding padded
length-padded m =
    let a = length-append m (padding (135 - length m % 136)) in
    let b = length-padding (135 - length m % 136) in
    omega arith

pub whole : WholeBlocks
whole m = let l = length-padded m in omega arith

pub least : LeastPadding
least m n h k = let l = length-padded m in omega arith

bits-append : (m n : List ℕ) → bits (m ++ n) ≡ bits m ++ bits n
bits-append m n = flat_map-append octet m n

length-bits : (m : List ℕ) → length (bits m) ≡ 8 * length m
length-bits m = length-joined octet (λ b. refl) m

bits_zeros : (n : ℕ) → bits (replicate n 0) ≡ replicate (8 * n) 0
bits_zeros zero = refl
bits_zeros (suc n) =
    let e : 8 + 8 * n ≡ 8 * suc n = omega arith in
    ap (λ (r : List ℕ). replicate 8 0 ++ r) (bits_zeros n) ∙ replicate-append-replicate 8 (8 * n) 0 ∙ ap (λ (k : ℕ). replicate k 0) e

-- zeros and then a list, with more zeros in front of it
zeros_more : (a b c : ℕ) (r : List ℕ) → a + b ≡ c → replicate a 0 ++ (replicate b 0 ++ r) ≡ replicate c 0 ++ r
zeros_more a b c r e =
    sym (append_assoc (replicate a 0) (replicate b 0) r)
    ∙ ap (λ (s : List ℕ). s ++ r) (replicate-append-replicate a b 0 ∙ ap (λ (k : ℕ). replicate k 0) e)

bits_padding : (k : ℕ) → bits (padding k) ≡ 0 ∷ 1 ∷ 1 ∷ (replicate (8 * k + 4) 0 ++ 1 ∷ [])
bits_padding zero = refl
bits_padding (suc k) =
    let first = λ (r : List ℕ). 0 ∷ 1 ∷ 1 ∷ (replicate 5 0 ++ r) in
    let s : 5 + (8 * k + 7) ≡ 8 * suc k + 4 = omega arith in
    ap first (bits-append (replicate k 0) (0x80 ∷ []) ∙ ap (λ (r : List ℕ). r ++ bits (0x80 ∷ [])) (bits_zeros k) ∙ zeros_more (8 * k) 7 (8 * k + 7) (1 ∷ []) refl)
    ∙ ap (λ (r : List ℕ). 0 ∷ 1 ∷ 1 ∷ r) (zeros_more 5 (8 * k + 7) (8 * suc k + 4) (1 ∷ []) s)

pub padding-bits : PaddingBits
unfolding padded
padding-bits m =
    let k = 135 - length m % 136 in
    let l = length-bits m in
    let j : 8 * k + 4 ≡ (1088 - (length (bits m) + 2 + 2) % 1088) % 1088 = omega arith in
    bits-append m (padding k)
    ∙ ap (λ (r : List ℕ). bits m ++ r) (bits_padding k ∙ ap (λ (n : ℕ). 0 ∷ 1 ∷ 1 ∷ (replicate n 0 ++ 1 ∷ [])) j)
