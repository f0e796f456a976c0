-- An index of a log: for each place, where its last record starts.
-- Assumes nothing.
use Rattle.std.specs.Prelude.{◌≡◌, ℕ, ◌+◌, ◌-◌, ◌*◌, ◌^◌, true, List, None, Option, slice_index_or}
use Rattle.terms.specs.Levels.{top_level, most_blocks}
use Rattle.terms.specs.Places.{inside}
use Rattle.terms.specs.declared.place.Place.{Place}
use Rattle.terms.specs.declared.place.Place.TheVariants.{Block, Node}
use Rattle.logstore.specs.Records.{last_of}

-- where the index has a place: the blocks by number, and then the nodes as in a heap, the top one at 1
abbrev pub slot : Place → ℕ
slot (Block i) = i.0
slot (Node l j) = most_blocks + (2 ^ (top_level - l.0) + j.0)

-- how many slots there are
abbrev pub slots : ℕ
slots = 3 * most_blocks

-- an index that says what the records say
abbrev pub Agrees : List ℕ → List (Option ℕ) → Type 0
Agrees bs index = (p : Place) → inside most_blocks p ≡ true → slice_index_or index (slot p) None ≡ last_of bs p
