use Rattle.std.proofs.Common.{ℕ, List, get_or, ap, ◌∙◌}
use lib.Bits.{bit_xor}
use Rattle.sha3.specs.Keccak.{state, effects, θ}
use Rattle.sha3.proofs.Rows.{place, stacked}
use Rattle.sha3.proofs.keccak.theta.Goals as goal

pub returns : goal.returns
unfolding effects θ
returns c =
    let f = λ (D : List ℕ) (x y : ℕ). bit_xor (place c.args.a.now x y) (get_or D x 0) in
    stacked (f c.mixed-d.result) _ _ _ _ _ c.added.ensures c.added-2.ensures c.added-3.ensures c.added-4.ensures c.added-5.ensures
    ∙ ap (λ (D : List ℕ). state (f D)) c.mixed-d.ensures
