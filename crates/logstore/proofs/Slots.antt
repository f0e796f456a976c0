-- The slots of an index: each place has one of its own.
-- Assumes nothing.
use Rattle.std.specs.Prelude.{◌≡◌, ℕ, ◌+◌, ◌-◌, ◌*◌, ◌^◌, ◌<◌, ◌≤◌, true, false, ◌⊎◌, ◌≢◌, refl}
use Rattle.std.proofs.Common.{inl, inr, sym, ap, ◌∙◌, arith, pow_mono}
use Rattle.std.proofs.lemmas.Nat.{pow-add}
use Rattle.std.proofs.lemmas.Bool.{leb-true, ltb-true, eq-eqb, and_from, cases_Bool, cases_order}
use Rattle.terms.specs.Levels.{top_level, most_blocks}
use Rattle.terms.specs.Places.{inside, same_place}
use Rattle.terms.proofs.Spans.{node_low}
use Rattle.terms.specs.declared.place.Level.{Level}
use Rattle.terms.specs.declared.place.NodeNumber.{NodeNumber}
use Rattle.terms.specs.declared.place.Place.{Place}
use Rattle.terms.specs.declared.place.Place.TheVariants.{Block, Node}
use Rattle.logstore.specs.Index.{slot, slots}

-- how high and how far a node can lie
pub place_low : (p : Place) (l : Level) (j : NodeNumber) → p ≡ Node l j → inside most_blocks p ≡ true → (l.0 ≤ top_level) × (j.0 < 2 ^ (top_level - l.0))
place_low p l j e t = node_low top_level l.0 j.0 (leb-true _ most_blocks (ap (inside most_blocks) (sym e) ∙ t))

pub number_low : (p : Place) (l : Level) (j : NodeNumber) → p ≡ Node l j → inside most_blocks p ≡ true → j.0 < most_blocks
number_low p l j e t =
    let low = place_low p l j e t in
    let under : top_level - l.0 ≤ top_level = omega arith in
    let half : 2 ^ (top_level - l.0) ≤ most_blocks = pow_mono under in
    omega (arith, low.1)

-- no node above the highest level is inside
pub node_high : (l : Level) (j : NodeNumber) → top_level < l.0 → inside most_blocks (Node l j) ≡ false
node_high l j high = go (cases_Bool (inside most_blocks (Node l j)))
  where
    go : (inside most_blocks (Node l j) ≡ true) ⊎ (inside most_blocks (Node l j) ≡ false) → inside most_blocks (Node l j) ≡ false
    go (inl t) = absurd (omega (arith, (place_low (Node l j) l j refl t).0))
    go (inr f) = f

-- nodes of different levels have different numbers in a heap
heap_apart : (top l i m j : ℕ) → l ≤ top → m ≤ top → j < 2 ^ (top - m) → l < m → 2 ^ (top - l) + i ≢ 2 ^ (top - m) + j
heap_apart top l i m j a b few lt e =
    let up : top - m + 1 ≤ top - l = omega arith in
    let more : 2 ^ (top - m + 1) ≤ 2 ^ (top - l) = pow_mono up in
    let twice : 2 ^ (top - m + 1) ≡ 2 ^ (top - m) * 2 = pow-add 2 (top - m) 1 in
    omega arith

pub slot_low : (p : Place) → inside most_blocks p ≡ true → slot p < slots
slot_low (Block i) e = omega (arith, ltb-true i.0 most_blocks e)
slot_low (Node l j) e =
    let low = place_low (Node l j) l j refl e in
    let under : top_level - l.0 ≤ top_level = omega arith in
    let half : 2 ^ (top_level - l.0) ≤ most_blocks = pow_mono under in
    omega (arith, low.1)

pub slot_same : (q p : Place) → inside most_blocks q ≡ true → inside most_blocks p ≡ true → slot p ≡ slot q → same_place q p ≡ true
slot_same (Block i) (Block j) a b e = eq-eqb i.0 j.0 (sym e)
slot_same (Block i) (Node l j) a b e = absurd (omega (arith, ltb-true i.0 most_blocks a))
slot_same (Node l i) (Block j) a b e = absurd (omega (arith, ltb-true j.0 most_blocks b))
slot_same (Node l i) (Node m j) a b e = go (cases_order l.0 m.0)
  where
    first : (l.0 ≤ top_level) × (i.0 < 2 ^ (top_level - l.0))
    first = place_low (Node l i) l i refl a

    second : (m.0 ≤ top_level) × (j.0 < 2 ^ (top_level - m.0))
    second = place_low (Node m j) m j refl b

    heap : 2 ^ (top_level - l.0) + i.0 ≡ 2 ^ (top_level - m.0) + j.0
    heap = omega arith

    go : (l.0 ≡ m.0) ⊎ ((l.0 < m.0) ⊎ (m.0 < l.0)) → same_place (Node l i) (Node m j) ≡ true
    go (inl u) =
        let level : 2 ^ (top_level - l.0) ≡ 2 ^ (top_level - m.0) = ap (λ n. 2 ^ (top_level - n)) u in
        let number : i.0 ≡ j.0 = omega arith in
        and_from _ _ (eq-eqb l.0 m.0 u) (eq-eqb i.0 j.0 number)
    go (inr (inl lt)) = absurd (heap_apart top_level l.0 i.0 m.0 j.0 first.0 second.0 second.1 lt heap)
    go (inr (inr lt)) = absurd (heap_apart top_level m.0 j.0 l.0 i.0 second.0 first.0 first.1 lt (sym heap))
