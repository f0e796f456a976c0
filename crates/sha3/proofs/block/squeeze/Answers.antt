use Rattle.std.proofs.Common.{rules, ◌≡◌, ℕ, ◌/◌, ◌%◌, List, [], ◌∷◌, map, length, get_or, refl, sym, ◌∙◌, arith}
use Rattle.std.specs.Int.{w64, to_le_bytes}
use Rattle.std.specs.List.{range_with_len}
use Rattle.sha3.specs.Sponge.{squeezed}
use Rattle.hash.proofs.Made.{made}
use Rattle.sha3.proofs.block.squeeze.Goals as goal

-- the byte i of the lanes
abbrev byte : List ℕ → ℕ → ℕ
byte A i = get_or (to_le_bytes w64 (get_or A (i / 8) 0)) (i % 8) 0

bytes_out : (A : List ℕ) → length A ≡ 25 → squeezed A ≡ map (byte A) (range_with_len 0 32)
unfolding squeezed
bytes_out [] h = let z : ⊥ = omega arith in absurd z
bytes_out (a ∷ []) h = let z : ⊥ = omega arith in absurd z
bytes_out (a ∷ b ∷ []) h = let z : ⊥ = omega arith in absurd z
bytes_out (a ∷ b ∷ c ∷ []) h = let z : ⊥ = omega arith in absurd z
bytes_out (a ∷ b ∷ c ∷ d ∷ A) h = refl

pub returns : goal.returns
returns c =
    let A = c.args.lanes.now in
    made _ (byte A) (λ p. p.0.now ≡ A) (λ p q i y s k. (cc, search rules)) c.from_fn.result _ 32 0 refl c.from_fn.ensures.items
    ∙ sym (bytes_out A c.told-lanes)
