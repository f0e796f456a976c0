use Rattle.std.proofs.Common.{rules, ◌≡◌, ℕ, ◌+◌, ◌%◌, List, map, get_or, refl, ap, ◌∙◌}
use lib.Bits.{bit_xor}
use Rattle.std.specs.List.{range_with_len}
use Rattle.sha3.specs.Keccak.{rotated, effects}
use Rattle.hash.proofs.Made.{made}
use Rattle.sha3.proofs.Rows.{place}
use Rattle.sha3.proofs.keccak.mixed.Goals as goal

abbrev mix : List ℕ → ℕ → ℕ
mix C x = bit_xor (get_or C ((x + 4) % 5) 0) (rotated (get_or C ((x + 1) % 5) 0) 1)

pub returns : goal.returns
unfolding effects
returns c =
    let R = c.args.a.now in
    let C = c.from_fn-c.result in
    let v = λ (x : ℕ). bit_xor (bit_xor (bit_xor (bit_xor (place R x 0) (place R x 1)) (place R x 2)) (place R x 3)) (place R x 4) in
    made _ (mix C) (λ p. p.0.now ≡ C) (λ p q i y s k. (cc, search rules)) c.from_fn.result _ 5 0 refl c.from_fn.ensures.items
    ∙ ap (λ E. map (mix E) (range_with_len 0 5)) (made _ v (λ p. p.0.now ≡ R) (λ p q i y s k. (cc, search rules)) C _ 5 0 refl c.from_fn-c.ensures.items)
