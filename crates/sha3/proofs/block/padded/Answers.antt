use Rattle.std.proofs.Common.{◌≡◌, ℕ, suc, ◌+◌, ◌-◌, ◌++◌, length, replicate, ap, ◌∙◌, arith}
use Rattle.std.proofs.lemmas.List.{length-append}
use Rattle.sha3.proofs.Lists.{pad_is}
use Rattle.sha3.proofs.block.padded.Goals as goal

pub returns : goal.returns
returns c =
    let F = c.args.first.now in
    let S = c.args.second.now in
    let n = length F + length S in
    let last : n + (135 - n) ≡ 135 = omega arith in
    let one : 136 - n ≡ suc (135 - n) = omega arith in
    pad_is (F ++ S) c.joined-block.result n (135 - n) 135 (length-append F S) last
    (c.joined-block.ensures ∙ ap (λ (k : ℕ). (F ++ S) ++ replicate k 0) one)
