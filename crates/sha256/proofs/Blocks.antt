-- The hash value after block upon block.
-- Assumes nothing.
use Rattle.std.proofs.Common.{◌≡◌, ℕ, zero, suc, ◌+◌, ◌*◌, List, length, fold, ap, ◌∙◌, add-one, arith}
use Rattle.std.specs.List.{range_with_len}
use Rattle.sha256.specs.Hash.{compress, intermediate, final}
use Rattle.sha256.specs.Padding.{block, pad}

-- the hash value after n blocks of p from i on
blocks_from : (p : List ℕ) (n i : ℕ) → fold (λ H k. compress H (block p k)) (intermediate p i) (range_with_len i n) ≡ intermediate p (i + n)
unfolding intermediate
blocks_from p zero i = ap (intermediate p) (omega arith)
blocks_from p (suc n) i =
    rw add-one (blocks_from p n (suc i) ∙ ap (intermediate p) (omega arith))

pub blocks_all : (m : List ℕ) (n : ℕ) → 64 * n ≡ length (pad m)
    → fold (λ H k. compress H (block (pad m) k)) (intermediate (pad m) 0) (range_with_len 0 n) ≡ final m
unfolding final
blocks_all m n e = blocks_from (pad m) n 0 ∙ ap (intermediate (pad m)) (omega arith)
