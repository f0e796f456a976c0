use Rattle.std.proofs.Common.{◌≡◌, ℕ, ◌+◌, ◌-◌, List, [], ◌++◌, length, take, replicate, sym, ap, ◌∙◌, arith}
use Rattle.std.proofs.lemmas.List.{append-nil, append_assoc, length-append, take-append-drop}
use Rattle.sha3.specs.Keccak.{keccak_f}
use Rattle.sha3.specs.Sponge.{xored, sponge}
use Rattle.sha3.proofs.Blocks.{next_block}
use Rattle.sha3.proofs.Sha3HashFunction.hash.Goals as goal

pub returns : goal.returns
returns c =
    let held = c.absorb-held.result.now in
    let head = c.in-Some.head.now in
    let tail = c.in-Some.tail.now in
    let A = c.absorb-held.new.lanes in
    let S = c.args.message.second.now in
    let room = 136 - length held in
    let h = c.in-Some.ensures.cases in
    let cut : head ++ tail ≡ S =
    ap (λ (r : List ℕ). r ++ tail) h.1 ∙ ap (λ (r : List ℕ). take room S ++ r) h.2 ∙ take-append-drop room S in
    let l = length-append held head in
    let full : length (held ++ head) ≡ 136 = omega (arith, h.3) in
    let none : 136 - (length held + length head) ≡ 0 = omega arith in
    c.finish-2.ensures
    ∙ c.absorb-rest.ensures.same []
    ∙ ap (sponge c.absorb_block.new.lanes) (append-nil tail)
    ∙ ap (λ (r : List ℕ). sponge r tail) c.absorb_block.ensures
    ∙ ap (λ (r : List ℕ). sponge (keccak_f (xored A r)) tail) (c.joined.ensures ∙ ap (λ (n : ℕ). (held ++ head) ++ replicate n 0) none ∙ append-nil (held ++ head))
    ∙ sym (next_block A (held ++ head) tail full)
    ∙ ap (sponge A) (append_assoc held head tail ∙ ap (λ (r : List ℕ). held ++ r) cut)
    ∙ c.absorb-held.ensures.same S
