-- The sponge, block by block.
-- Assumes nothing.
use Rattle.std.proofs.Common.{◌≡◌, ℕ, suc, ◌+◌, ◌-◌, ◌/◌, ◌%◌, ◌<◌, ◌≤◌, List, ◌++◌, length, take, drop, sym, ap, ◌∙◌, arith}
use Rattle.std.proofs.lemmas.List.{append_assoc, length-append, length-take-le, take-append-drop, take_at, drop_at, take_all}
use Rattle.sha3.specs.Keccak.{keccak_f}
use Rattle.sha3.specs.Sponge.{padding, padded, xored, absorbed, squeezed, sponge}
use Rattle.sha3.proofs.Pads.{length-padding}

-- a whole block
pub next_block : (A P m : List ℕ) → length P ≡ 136 → sponge A (P ++ m) ≡ sponge (keccak_f (xored A P)) m
unfolding sponge padded absorbed
next_block A P m l =
    let n = length-append P m in
    let turns : length (P ++ m) / 136 + 1 ≡ suc (length m / 136 + 1) = omega arith in
    let left : length (P ++ m) % 136 ≡ length m % 136 = omega arith in
    let whole : padded (P ++ m) ≡ P ++ padded m =
    ap (λ (k : ℕ). (P ++ m) ++ padding (135 - k)) left ∙ append_assoc P m (padding (135 - length m % 136)) in
    ap (λ (k : ℕ). squeezed (absorbed k A (padded (P ++ m)))) turns
    ∙ ap (λ (r : List ℕ). squeezed (absorbed (suc (length m / 136 + 1)) A r)) whole
    ∙ ap (λ (r : List ℕ). squeezed (absorbed (length m / 136 + 1) (keccak_f (xored A r)) (drop 136 (P ++ padded m)))) (take_at P (padded m) 136 l)
    ∙ ap (λ (r : List ℕ). squeezed (absorbed (length m / 136 + 1) (keccak_f (xored A P)) r)) (drop_at P (padded m) 136 l)

-- the last one
pub last_block : (A P : List ℕ) → length P < 136 → sponge A P ≡ squeezed (keccak_f (xored A (P ++ padding (135 - length P))))
unfolding sponge padded absorbed
last_block A P h =
    let turns : length P / 136 + 1 ≡ 1 = omega arith in
    let left : length P % 136 ≡ length P = omega arith in
    let B = P ++ padding (135 - length P) in
    let n = length-append P (padding (135 - length P)) in
    let k = length-padding (135 - length P) in
    let le : length B ≤ 136 = omega arith in
    ap (λ (k : ℕ). squeezed (absorbed k A (padded P))) turns
    ∙ ap (λ (k : ℕ). squeezed (keccak_f (xored A (take 136 (P ++ padding (135 - k)))))) left
    ∙ ap (λ (r : List ℕ). squeezed (keccak_f (xored A r))) (take_all 136 B le)

-- a list cut at n, before another
rejoined : (n : ℕ) (X m : List ℕ) → take n X ++ (drop n X ++ m) ≡ X ++ m
rejoined n X m = sym (append_assoc (take n X) (drop n X) m) ∙ ap (λ (r : List ℕ). r ++ m) (take-append-drop n X)

-- a whole block of the bytes X that are still to come
pub straight : (A X m : List ℕ) → 136 ≤ length X → sponge (keccak_f (xored A (take 136 X))) (drop 136 X ++ m) ≡ sponge A (X ++ m)
straight A X m h =
    sym (next_block A (take 136 X) (drop 136 X ++ m) (length-take-le 136 X h))
    ∙ ap (sponge A) (rejoined 136 X m)
