-- Where the places of a span lie: each within the layout, and no two together.
-- Assumes nothing.
use Rattle.std.specs.Prelude.{◌≡◌, ◌+◌, ◌<◌, ◌≤◌, ◌⊎◌}
use Rattle.std.proofs.Common.{inl, inr, ap, arith}
use Rattle.std.proofs.lemmas.Bool.{ltb-true, cases_order}
use Rattle.std.proofs.lemmas.Bool.Decides.{nat_tests}
use Rattle.terms.specs.Places.{digest_length}
use Rattle.terms.specs.declared.place.Place.TheVariants.{Block, Node}
use Rattle.flat.specs.Laws.{PlacesLieApart}
use Rattle.flat.specs.Layout.{nodes_below, offset}
use Rattle.flat.specs.Sized.{node_before}

-- no two places lie together
pub places_apart : PlacesLieApart
places_apart c (Block i) (Block j) s t f = grind (arith, nat_tests)
places_apart c (Block i) (Node m j) s t f = inl (omega (arith, ltb-true i.0 c s))
places_apart c (Node l i) (Block j) s t f = inr (omega (arith, ltb-true j.0 c t))
places_apart c (Node l i) (Node m j) s t f = go (cases_order l.0 m.0)
  where
    go : (l.0 ≡ m.0) ⊎ ((l.0 < m.0) ⊎ (m.0 < l.0)) → (offset c (Node l i) + digest_length ≤ offset c (Node m j)) ⊎ (offset c (Node m j) + digest_length ≤ offset c (Node l i))
    go (inl e) = let same = ap (nodes_below c) e in grind (arith, nat_tests)
    go (inr (inl low)) = inl (omega (arith, node_before c l i m.0 s low))
    go (inr (inr high)) = inr (omega (arith, node_before c m j l.0 t high))
