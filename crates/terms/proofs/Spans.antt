-- The nodes of a level that lie inside a span.
-- Assumes nothing.
use Rattle.std.proofs.Common.{◌≡◌, ℕ, ◌+◌, ◌-◌, ◌*◌, ◌/◌, ◌^◌, ◌<◌, ◌≤◌, false, ltb, leb, ◌⊎◌, sym, ap, ◌∙◌, inl, inr, one-mul, le_of_mul-le-mul_right, arith, pow_mono}
use Rattle.std.proofs.lemmas.Nat.{pow_pos, pow-add, pow_below, shr_split, mul-le, le-div}
use Rattle.std.proofs.lemmas.Bool.{lt-ltb, le-ltb, le-leb, lt-leb, cases_lt}

-- a span has its length, shifted down by the level, of nodes
pub nodes_inside : (span l j : ℕ) → ltb j (span / 2 ^ l) ≡ leb ((j + 1) * 2 ^ l) span
nodes_inside span l j = go (cases_lt j (span / 2 ^ l))
  where
    go : (j < span / 2 ^ l) ⊎ (span / 2 ^ l ≤ j) → ltb j (span / 2 ^ l) ≡ leb ((j + 1) * 2 ^ l) span
    go (inl low) =
        let wide : (j + 1) * 2 ^ l ≤ span / 2 ^ l * 2 ^ l = mul-le (j + 1) (2 ^ l) (span / 2 ^ l) (2 ^ l) (omega arith) (omega arith) in
        let fits : (j + 1) * 2 ^ l ≤ span = omega (arith, shr_split span l) in
        lt-ltb j (span / 2 ^ l) low ∙ sym (le-leb ((j + 1) * 2 ^ l) span fits)
    go (inr high) = le-ltb j (span / 2 ^ l) high ∙ sym (past (cases_lt span ((j + 1) * 2 ^ l)))
      where
        past : (span < (j + 1) * 2 ^ l) ⊎ ((j + 1) * 2 ^ l ≤ span) → leb ((j + 1) * 2 ^ l) span ≡ false
        past (inl far) = lt-leb ((j + 1) * 2 ^ l) span far
        past (inr near) = absurd (omega (arith, le-div (j + 1) span (2 ^ l) (pow_pos l) near))

-- a level of 32 or more has none
pub none_inside : (span l j : ℕ) → span < 2 ^ 32 → 32 ≤ l → leb ((j + 1) * 2 ^ l) span ≡ false
none_inside span l j small high =
    let wide : 1 * 2 ^ l ≤ (j + 1) * 2 ^ l = mul-le 1 (2 ^ l) (j + 1) (2 ^ l) (omega arith) (omega arith) in
    let deep : 2 ^ 32 ≤ 2 ^ l = pow_mono high in
    lt-leb ((j + 1) * 2 ^ l) span (omega (arith, one-mul (2 ^ l)))

-- a node that lies among 2 ^ top blocks: how high and how far it can lie
pub node_low : (top l j : ℕ) → (j + 1) * 2 ^ l ≤ 2 ^ top → (l ≤ top) × (j < 2 ^ (top - l))
node_low top l j fits = go (cases_lt top l)
  where
    go : (top < l) ⊎ (l ≤ top) → (l ≤ top) × (j < 2 ^ (top - l))
    go (inl high) = absurd (omega (arith, pow_below top l high, mul-le 1 (2 ^ l) (j + 1) (2 ^ l) (omega arith) (omega arith), one-mul (2 ^ l)))
    go (inr low) =
        let all : top - l + l ≡ top = omega arith in
        let split : 2 ^ (top - l) * 2 ^ l ≡ 2 ^ top = sym (pow-add 2 (top - l) l) ∙ ap (λ n. 2 ^ n) all in
        let wide : (j + 1) * 2 ^ l ≤ 2 ^ (top - l) * 2 ^ l = omega arith in
        let few : j + 1 ≤ 2 ^ (top - l) = le_of_mul-le-mul_right wide (pow_pos l) in
        (low, omega arith)
