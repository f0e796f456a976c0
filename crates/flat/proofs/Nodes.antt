-- How many nodes of a span lie below a level.
-- Assumes nothing.
use Rattle.std.specs.Prelude.{◌≡◌, ℕ, zero, suc, ◌+◌, ◌/◌, ◌^◌, ◌≤◌, List, map, refl, sum}
use Rattle.std.specs.List.{range_with_len}
use Rattle.std.proofs.Common.{add-one, ap, sym, ◌∙◌, arith}
use Rattle.std.proofs.Math.Pow.{shr_mono}
use Rattle.std.proofs.lemmas.List.FromFn.{sum_by-map-range_with_len_more}
use Rattle.flat.specs.Layout.{nodes_below}

-- how many they are on each level below one, from the lowest up
abbrev pub levels : ℕ → ℕ → List ℕ
levels c l = map (λ k. c / 2 ^ k) (range_with_len 0 l)

-- they are the sum of those
pub nodes_sum : (c l : ℕ) → sum (levels c l) ≡ nodes_below c l
unfolding nodes_below
nodes_sum c zero = refl
nodes_sum c (suc l) = ap (λ n. sum (levels c n)) (sym (add-one l)) ∙ sum_by-map-range_with_len_more (λ x. x) (λ k. c / 2 ^ k) 0 l l (omega arith) ∙ ap (λ n. n + c / 2 ^ l) (nodes_sum c l)

pub nodes_mono : (c d l : ℕ) → c ≤ d → nodes_below c l ≤ nodes_below d l
unfolding nodes_below
nodes_mono c d zero le = omega arith
nodes_mono c d (suc l) le = omega (arith, nodes_mono c d l le, shr_mono l le)
