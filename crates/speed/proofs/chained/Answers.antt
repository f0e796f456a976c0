use Rattle.std.proofs.Common.{rules, ◌≡◌, ℕ, ◌+◌, List, ◌++◌, sym, refl, ap, ◌∙◌, add-one}
use Rattle.speed.specs.Chain.{chain}
use Rattle.speed.proofs.chained.Goals as goal

chain_more : (d : List ℕ → List ℕ) (part : List ℕ) (n : ℕ) → d (part ++ chain d part n) ≡ chain d part (n + 1)
unfolding chain
chain_more d part n = ap (chain d part) (sym (add-one n))

pub loop-init : goal.loop-init
unfolding chain
loop-init g c = (refl, refl)

pub loop-preserved : goal.loop-preserved
loop-preserved g c =
    let d : List ℕ → List ℕ = g.D.HashFunction.meaning in
    let part : List ℕ = c.args.part.now in (
      c.hash-last.ensures ∙ ap (λ (x : List ℕ). d (part ++ x)) c.loop.invariant.0 ∙ chain_more d part c.loop.counter,
      search rules,
    )
