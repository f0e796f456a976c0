use Rattle.std.proofs.Common.{◌≡◌, ℕ, ◌+◌, ◌*◌, ◌/◌, ◌<◌, ◌≤◌, List, [], ◌++◌, length, get_or, take, drop, sym, ap, ◌∙◌, arith}
use Rattle.std.proofs.lemmas.List.{length-drop, drop-drop}
use Rattle.sha3.specs.Keccak.{keccak_f}
use Rattle.sha3.specs.Sponge.{xored, sponge}
use Rattle.sha3.proofs.Blocks.{straight}
use Rattle.sha3.proofs.Lists.{chunk_at}
use Rattle.sha3.proofs.sponge.absorb.Goals as goal

pub loop-block-preserved : goal.loop-block-preserved
loop-block-preserved c m =
    let B = c.args.bytes.now in
    let L = c.loop-block.lanes in
    let i = c.loop-block.block-index in
    let X = drop (i * 136) B in
    let k : i < length B / 136 = omega arith in
    let l = length-drop (i * 136) B in
    let h : 136 ≤ length X = omega arith in
    let e : i * 136 + 136 ≡ (i + 1) * 136 = omega arith in
    let rest : drop 136 X ≡ drop ((i + 1) * 136) B = drop-drop 136 (i * 136) B ∙ ap (λ (j : ℕ). drop j B) e in
    let block : c.absorb_block.new.lanes ≡ keccak_f (xored L (take 136 X)) =
    c.absorb_block.ensures
    ∙ ap (λ (r : List (List ℕ)). keccak_f (xored L (get_or r i []))) c.as_chunks.ensures.front
    ∙ ap (λ (r : List ℕ). keccak_f (xored L r)) (chunk_at 136 (length B / 136) i B [] k) in
    ap (λ (r : List ℕ). sponge c.absorb_block.new.lanes (r ++ m)) (sym rest)
    ∙ ap (λ (r : List ℕ). sponge r (drop 136 X ++ m)) block
    ∙ straight L X m h
    ∙ c.loop-block.invariant m
