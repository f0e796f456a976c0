use Rattle.std.proofs.Common.{ℕ, ◌-◌, ◌<◌, List, ◌++◌, length, sym, ap, ◌∙◌, arith}
use Rattle.std.proofs.lemmas.List.{length-append}
use Rattle.sha3.specs.Keccak.{keccak_f}
use Rattle.sha3.specs.Sponge.{padding, xored, squeezed}
use Rattle.sha3.proofs.Blocks.{last_block}
use Rattle.sha3.proofs.sponge.finish.Goals as goal

pub returns : goal.returns
returns c =
    let A = c.args.lanes in
    let P = c.args.first.now ++ c.args.second.now in
    let l = length-append c.args.first.now c.args.second.now in
    let h : length P < 136 = omega arith in
    c.squeeze.ensures
    ∙ ap squeezed c.absorb_block.ensures
    ∙ ap (λ (r : List ℕ). squeezed (keccak_f (xored A r))) (c.padded.ensures ∙ ap (λ (n : ℕ). P ++ padding (135 - n)) (sym l))
    ∙ sym (last_block A P h)
