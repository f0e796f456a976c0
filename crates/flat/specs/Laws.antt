-- What follows from the layout.
-- Assumes nothing.
use Rattle.std.specs.Prelude.{◌≡◌, ℕ, ◌+◌, ◌≤◌, true, false, ◌⊎◌}
use Rattle.terms.specs.Levels.{most_blocks}
use Rattle.terms.specs.Places.{inside, record_length, same_place}
use Rattle.terms.specs.declared.place.Place.{Place}
use Rattle.flat.specs.Layout.{flat_span, layout_length, offset}

-- the span is the largest number of blocks, up to the most that a file may have, whose layout fits
abbrev pub SpanIsTheLargest : Type 0
SpanIsTheLargest = (n : ℕ) → (flat_span n ≤ most_blocks) × (layout_length (flat_span n) ≤ n) × ((c : ℕ) → c ≤ most_blocks → layout_length c ≤ n → c ≤ flat_span n)

-- two different places of a span share no byte
abbrev pub PlacesLieApart : Type 0
PlacesLieApart = (c : ℕ) (p q : Place) → inside c p ≡ true → inside c q ≡ true → same_place p q ≡ false → (offset c p + record_length p ≤ offset c q) ⊎ (offset c q + record_length q ≤ offset c p)

-- every place of a span of at most the most blocks lies within its layout
abbrev pub PlacesFit : Type 0
PlacesFit = (c : ℕ) (p : Place) → c ≤ most_blocks → inside c p ≡ true → offset c p + record_length p ≤ layout_length c

-- spans of some lengths
abbrev pub SpanCases : Type 0
SpanCases = (flat_span 0 ≡ 0) × (flat_span 1055 ≡ 0) × (flat_span 1056 ≡ 1) × (flat_span 4319 ≡ 3) × (flat_span 4320 ≡ 4)
