use Rattle.std.proofs.Common.{◌≡◌, ℕ, ◌+◌, ◌-◌, List, ◌++◌, length, drop, replicate, refl, ap, ◌∙◌, arith}
use borrow.Rule.Slice.PartMut.{put_mid}
use Rattle.std.proofs.lemmas.List.{drop-replicate}
use Rattle.sha3.proofs.Lists.{put_next}
use Rattle.sha3.proofs.block.joined.Goals as goal

pub returns : goal.returns
returns c =
    let F = c.args.first.now in
    let S = c.args.second.now in
    let n = length F in
    let k = length F + length S - length F in
    let e : k ≡ length S = omega arith in
    let Z = replicate 136 0 in
    ap (λ (r : List ℕ). put_mid n k (r ++ drop n Z) c.copy_from_slice-2.new.self) c.copy_from_slice.ensures.after
    ∙ put_next F Z (F ++ drop n Z) c.copy_from_slice-2.new.self n k refl refl
    ∙ ap (λ (r : List ℕ). (F ++ r) ++ drop (n + k) Z) c.copy_from_slice-2.ensures.after
    ∙ ap (λ (j : ℕ). (F ++ S) ++ drop (n + j) Z) e
    ∙ ap (λ (r : List ℕ). (F ++ S) ++ r) (drop-replicate (n + length S) 136 0)
