-- Where a record lies: how long it is, which places a span of blocks has, and which two places are one.
-- Assumes nothing.
use Rattle.std.specs.Prelude.{ℕ, ◌+◌, ◌*◌, ◌^◌, Bool, false, ◌&&◌, ◌==◌, nat_le, nat_lt}
use Rattle.terms.specs.declared.place.Place.{Place}
use Rattle.terms.specs.declared.place.Place.TheVariants.{Block, Node}

-- the bytes of a block
abbrev pub block_length : ℕ
block_length = 1024

-- the bytes of a node's digest
abbrev pub digest_length : ℕ
digest_length = 32

-- the bytes of the record at a place
abbrev pub record_length : Place → ℕ
record_length (Block i) = block_length
record_length (Node l j) = digest_length

-- whether a place lies inside a span of blocks
abbrev pub inside : ℕ → Place → Bool
inside span (Block i) = nat_lt i.0 span
inside span (Node l j) = nat_le ((j.0 + 1) * 2 ^ l.0) span

-- whether two places are one
abbrev pub same_place : Place → Place → Bool
same_place (Block i) (Block j) = i.0 == j.0
same_place (Block i) (Node m j) = false
same_place (Node l i) (Block j) = false
same_place (Node l i) (Node m j) = l.0 == m.0 && i.0 == j.0
