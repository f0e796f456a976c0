-- The span of a number of bytes: the most blocks whose layout fits.
-- Assumes nothing.
use Rattle.std.specs.Prelude.{◌≡◌, ℕ, ◌+◌, ◌-◌, ◌<◌, ◌≤◌, ◌⊎◌, Some, None, Option}
use Rattle.std.specs.Option.{MatchOption, unwrap_or}
use Rattle.std.proofs.Common.{ap, inl, inr, sym, ◌∙◌, arith, lit<, lit≤}
use Rattle.std.proofs.lemmas.Bool.{cases_lt}
use Rattle.terms.specs.Levels.{top_level, most_blocks}
use Rattle.flat.specs.Laws.{SpanCases}
use Rattle.flat.specs.Layout.{nodes_below, layout_length, flat_span}
use Rattle.flat.specs.Sized.{span_is}
use Rattle.flat.proofs.Nodes.{nodes_mono}

layout_mono : (c d : ℕ) → c ≤ d → layout_length c ≤ layout_length d
unfolding layout_length
layout_mono c d le = omega (arith, nodes_mono c d (top_level + 1) le)

-- it is c where c blocks fit and one more does not
span_at : (n c : ℕ) → c ≤ most_blocks → layout_length c ≤ n → n < layout_length (c + 1) → flat_span n ≡ c
span_at n c few near far = go (cases_lt c (flat_span n))
  where
    go : (c < flat_span n) ⊎ (flat_span n ≤ c) → flat_span n ≡ c
    go (inl more) = absurd (omega (arith, layout_mono (c + 1) (flat_span n) (omega arith), (span_is n).1))
    go (inr most) = omega (arith, (span_is n).2 c few near)

-- from a number that fits, one block more after another fits as far as each was seen to
near : (n s j : ℕ) → layout_length s ≤ n → s ≤ j → ((k : ℕ) → s ≤ k → k < j → layout_length (k + 1) ≤ n) → layout_length j ≤ n
near n s j fits from below = go (cases_lt s j)
  where
    go : (s < j) ⊎ (j ≤ s) → layout_length j ≤ n
    go (inl more) = let one : j - 1 + 1 ≡ j = omega arith in omega (arith, below (j - 1) (omega arith) (omega arith), ap layout_length one)
    go (inr same) = let one : s ≡ j = omega arith in omega (arith, fits, ap layout_length one)

-- it is the first number, from one that fits on, of which one block more does not fit, or the most blocks
pub span_found : (n s : ℕ) (r : Option ℕ) (c : ℕ) → s ≤ most_blocks → layout_length s ≤ n → c ≡ unwrap_or r most_blocks → MatchOption r ((k : ℕ) → s ≤ k → k < most_blocks → layout_length (k + 1) ≤ n) (λ i. (s ≤ i) × (i < most_blocks) × (n < layout_length (i + 1)) × ((k : ℕ) → s ≤ k → k < i → layout_length (k + 1) ≤ n)) → c ≡ flat_span n
span_found n s None c few fits e all = omega (arith, e, (span_is n).0, (span_is n).2 most_blocks (omega arith) (near n s most_blocks fits few all))
span_found n s (Some i) c few fits e found = e ∙ sym (span_at n i (omega (arith, found.1)) (near n s i fits found.0 found.3) found.2)

pub span_cases : SpanCases
unfolding layout_length nodes_below
span_cases = (span_at 0 0 (lit≤ tt) (lit≤ tt) (lit< tt), span_at 1055 0 (lit≤ tt) (lit≤ tt) (lit< tt), span_at 1056 1 (lit≤ tt) (lit≤ tt) (lit< tt), span_at 4319 3 (lit≤ tt) (lit≤ tt) (lit< tt), span_at 4320 4 (lit≤ tt) (lit≤ tt) (lit< tt))
