-- Why each record of a flat store has its place's length: the proof of a law of the interface, which src/ cites.
-- Assumes nothing.
use Rattle.std.specs.Prelude.{◌≡◌, ℕ, zero, suc, ◌+◌, ◌*◌, ◌/◌, ◌^◌, ◌<◌, ◌≤◌, ◌⊎◌, true, Bool, false, nat_le, refl, List, length, take, drop, Some}
use Rattle.std.proofs.Common.{inl, inr, sym, ap, ◌∙◌, div-one, add-one, arith, subst, length-take, length-drop}
use Rattle.std.proofs.lemmas.Nat.{shr-shr}
use Rattle.std.proofs.lemmas.Bool.{cases_lt, ltb-true, leb-true, le-leb, cases_Bool, both_ways}
use Rattle.flat.specs.Layout.{nodes_below, layout_length, offset, largest, flat_span, flat_table}
use Rattle.terms.specs.Levels.{top_level, most_blocks}
use Rattle.terms.specs.Places.{inside, record_length}
use Rattle.terms.specs.declared.place.Level.{Level}
use Rattle.terms.specs.declared.place.NodeNumber.{NodeNumber}
use Rattle.terms.specs.declared.place.Place.TheVariants.{Block, Node}
use Rattle.terms.proofs.Spans.{node_low, nodes_inside}
use Rattle.flat.specs.Laws.{PlacesFit, SpanIsTheLargest}
use Rattle.terms.specs.declared.place.Place.{Place}

pub nodes_more : (c l : ℕ) → nodes_below c (l + 1) ≡ nodes_below c l + c / 2 ^ l
unfolding nodes_below
nodes_more c l = ap (nodes_below c) (add-one l)

-- they are at most two to each block, however high the level
half : (c l : ℕ) → c / 2 ^ suc l ≡ c / 2 ^ l / 2
half c l = ap (λ n. c / 2 ^ n) (sym (add-one l)) ∙ sym (shr-shr c l 1)

halves : (c l : ℕ) → nodes_below c l + 2 * (c / 2 ^ l) ≤ 2 * c
unfolding nodes_below
halves c zero = omega (arith, div-one c)
halves c (suc l) = omega (arith, halves c l, half c l)

pub nodes_few : (c l : ℕ) → nodes_below c l ≤ 2 * c
nodes_few c l = omega (arith, halves c l)

-- there are as many or more below a higher level, or in a longer span
pub nodes_rise : (c l m : ℕ) → l ≤ m → nodes_below c l ≤ nodes_below c m
unfolding nodes_below
nodes_rise c l zero le = let same : l ≡ 0 = omega arith in omega (arith, ap (nodes_below c) same)
nodes_rise c l (suc m) le = go (cases_lt m l) (nodes_rise c l m)
  where
    go : (m < l) ⊎ (l ≤ m) → (l ≤ m → nodes_below c l ≤ nodes_below c m) → nodes_below c l ≤ nodes_below c (suc m)
    go (inl top) rise = let same : l ≡ suc m = omega arith in omega (arith, ap (nodes_below c) same)
    go (inr low) rise = omega (arith, rise low)

-- a node inside a span is one of those of its level
node_inside : (c : ℕ) (l : Level) (j : NodeNumber) → inside c (Node l j) ≡ true → j.0 < c / 2 ^ l.0
node_inside c l j t = ltb-true j.0 (c / 2 ^ l.0) (nodes_inside c l.0 j.0 ∙ t)

-- and it lies before those of the levels above
pub node_before : (c : ℕ) (l : Level) (j : NodeNumber) (m : ℕ) → inside c (Node l j) ≡ true → l.0 < m → nodes_below c l.0 + j.0 + 1 ≤ nodes_below c m
node_before c l j m t low = omega (arith, node_inside c l j t, nodes_more c l.0, nodes_rise c (l.0 + 1) m (omega arith))

-- every place lies within the layout
pub places_fit : PlacesFit
unfolding layout_length
places_fit c (Block i) few t = omega (arith, ltb-true i.0 c t)
places_fit c (Node l j) few t = omega (arith, node_before c l j (top_level + 1) t (omega (arith, (node_low top_level l.0 j.0 (omega (arith, leb-true ((j.0 + 1) * 2 ^ l.0) c t))).0)))

-- the largest number that passes a test: a number that passes is it, and one that does not is passed over
pub largest_here : (passes : ℕ → Bool) (c : ℕ) → passes c ≡ true → largest passes c ≡ c
unfolding largest
largest_here passes zero t = refl
largest_here passes (suc c) t = ap (λ b. elim b [ true ↦ suc c | false ↦ largest passes c ]) t

pub largest_lower : (passes : ℕ → Bool) (c : ℕ) → passes (suc c) ≡ false → largest passes (suc c) ≡ largest passes c
unfolding largest
largest_lower passes c f = ap (λ b. elim b [ true ↦ suc c | false ↦ largest passes c ]) f

-- it passes where 0 does, and it is the largest
abbrev Largest : (ℕ → Bool) → ℕ → ℕ → Type 0
Largest passes limit top = (top ≤ limit) × (passes top ≡ true) × ((c : ℕ) → c ≤ limit → passes c ≡ true → c ≤ top)

largest_is : (passes : ℕ → Bool) (limit : ℕ) → passes 0 ≡ true → Largest passes limit (largest passes limit)
largest_is passes zero start = subst (Largest passes 0) (sym (largest_here passes 0 start)) (omega arith, start, λ c le t. le)
largest_is passes (suc n) start = go (cases_Bool (passes (suc n))) (largest_is passes n start)
  where
    go : (passes (suc n) ≡ true) ⊎ (passes (suc n) ≡ false) → Largest passes n (largest passes n) → Largest passes (suc n) (largest passes (suc n))
    go (inl t) rest = subst (Largest passes (suc n)) (sym (largest_here passes (suc n) t)) (omega arith, t, λ c le u. le)
    go (inr f) rest = subst (Largest passes (suc n)) (sym (largest_lower passes n f)) (omega (arith, rest.0), rest.1, λ c le u. below c le u (cases_lt n c))
      where
        below : (c : ℕ) → c ≤ suc n → passes c ≡ true → (n < c) ⊎ (c ≤ n) → c ≤ largest passes n
        below c le u (inl top) = let same : c ≡ suc n = omega arith in absurd (both_ways (passes c) (ap passes same ∙ f) u)
        below c le u (inr low) = rest.2 c low u

-- no blocks take up no bytes, and more blocks take up as many or more
pub layout_none : (c n : ℕ) → c ≤ 0 → layout_length c ≤ n
unfolding layout_length
layout_none c n none = omega (arith, nodes_few c (top_level + 1))

-- what the span is
pub span_is : SpanIsTheLargest
unfolding flat_span
span_is n =
    let top = largest_is (λ c. nat_le (layout_length c) n) most_blocks (le-leb (layout_length 0) n (layout_none 0 n (omega arith))) in
    (top.0, leb-true (layout_length (flat_span n)) n top.1, λ c le near. top.2 c le (le-leb (layout_length c) n near))

-- the span of some bytes
abbrev pub span : List ℕ → ℕ
span bytes = flat_span (length bytes)

-- a record inside the span lies within the bytes
pub record_fits : (n c : ℕ) (p : Place) → c ≡ flat_span n → inside c p ≡ true → offset c p + record_length p ≤ n
record_fits n c p e t =
    let top = span_is n in
    omega (arith, top.1, ap layout_length e, places_fit c p (omega (arith, top.0)) t)

-- so each record has its place's length
pub table_sized : (bytes r : List ℕ) (p : Place) → flat_table (span bytes) bytes p ≡ Some r → length r ≡ record_length p
table_sized bytes r p e = go (cases_Bool (inside (span bytes) p))
  where
    go : (inside (span bytes) p ≡ true) ⊎ (inside (span bytes) p ≡ false) → length r ≡ record_length p
    go (inl t) =
        let fits = record_fits (length bytes) (span bytes) p refl t in
        let same : take (record_length p) (drop (offset (span bytes) p) bytes) ≡ r = grind arith in
        rw (← same, length-take, length-drop) (omega arith)
    go (inr f) = grind arith
