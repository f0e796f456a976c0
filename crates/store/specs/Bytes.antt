-- Bytes with a part written over.
-- Assumes nothing.
use Rattle.std.specs.Prelude.{ℕ, ◌+◌, List, ◌++◌, length, take, drop, Ok, Err, Result}
use Rattle.terms.specs.declared.cause.Cause.{Cause}

-- the bytes with r written over those from an offset on
abbrev pub overwritten : List ℕ → ℕ → List ℕ → List ℕ
overwritten bytes at r = take at bytes ++ (r ++ drop (at + length r) bytes)

-- the same after a put with this answer: as they were, where it is refused
abbrev pub put_over : Result (Unit {0}) Cause → List ℕ → ℕ → List ℕ → List ℕ
put_over (Ok u) bytes at r = overwritten bytes at r
put_over (Err c) bytes at r = bytes
