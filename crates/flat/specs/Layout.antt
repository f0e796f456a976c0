-- The layout of a flat store: the blocks by number, and then the digests, level by level and each level by number.
-- Assumes nothing.
use Rattle.std.specs.Prelude.{ℕ, zero, suc, ◌+◌, ◌-◌, ◌*◌, ◌/◌, ◌^◌, Bool, true, false, cond, List, length, take, drop, Some, None, Option, nat_le}
use Rattle.terms.specs.Levels.{top_level, most_blocks}
use Rattle.terms.specs.Places.{block_length, digest_length, record_length, inside}
use Rattle.terms.specs.declared.place.Place.{Place}
use Rattle.terms.specs.declared.place.Place.TheVariants.{Block, Node}
use Rattle.store.specs.Store.{Meaning}

-- how many nodes a span of c blocks has on the levels below l
unfoldable pub nodes_below : ℕ → ℕ → ℕ
nodes_below c zero = 0
nodes_below c (suc l) = nodes_below c l + c / 2 ^ l

-- the bytes of every block and every node of a span
unfoldable pub layout_length : ℕ → ℕ
layout_length c = block_length * c + digest_length * nodes_below c (top_level + 1)

-- the largest number up to a limit that passes a test, or 0
unfoldable pub largest : (ℕ → Bool) → ℕ → ℕ
largest passes zero = 0
largest passes (suc c) = elim (passes (suc c)) [ true ↦ suc c | false ↦ largest passes c ]

-- the span of n bytes: the most blocks whose layout fits
unfoldable pub flat_span : ℕ → ℕ
flat_span n = largest (λ c. nat_le (layout_length c) n) most_blocks

-- where a place's record starts
abbrev pub offset : ℕ → Place → ℕ
offset c (Block i) = block_length * i.0
offset c (Node l j) = block_length * c + digest_length * (nodes_below c l.0 + j.0)

-- the record at a place: what the bytes there are
abbrev pub flat_table : ℕ → List ℕ → Place → Option (List ℕ)
flat_table c bytes p = cond (inside c p) (Some (take (record_length p) (drop (offset c p) bytes))) None

-- the room of every flat store
abbrev pub flat_room : ℕ
flat_room = 2 ^ 32 - 1

-- what bytes mean as a flat store
abbrev pub flat_meaning : List ℕ → Meaning
flat_meaning bytes = record { table = flat_table (flat_span (length bytes)) bytes; span = flat_span (length bytes); room = flat_room; truthful = true }
