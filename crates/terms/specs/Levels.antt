-- The levels of a tree, and the most blocks that it may have.
-- Assumes nothing.
use Rattle.std.specs.Prelude.{ℕ, ◌^◌, cond, Some, None, Option, nat_le}

-- the highest level
abbrev pub top_level : ℕ
top_level = 12

-- the most blocks that a file may have
abbrev pub most_blocks : ℕ
most_blocks = 2 ^ top_level

-- a number as a level
abbrev pub levelled : ℕ → Option ℕ
levelled n = cond (nat_le n top_level) (Some n) None
