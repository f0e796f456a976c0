-- A state in rows, as the code has it.
-- Assumes nothing.
use Rattle.std.specs.Prelude.{◌≡◌, ℕ, ◌<◌, List, [], length, slice_index, slice_index_or}
use Rattle.sha3.specs.Keccak.{State, state}

-- Lane(x, y) is the element x of the row y
abbrev pub lanes : List (List ℕ) → State
lanes rows = state (λ x y. slice_index (slice_index_or rows y []) x)

-- five rows of five lanes
abbrev pub IsSquare : List (List ℕ) → Type 0
IsSquare rows = (length rows ≡ 5) × ((y : ℕ) → y < 5 → length (slice_index_or rows y []) ≡ 5)
