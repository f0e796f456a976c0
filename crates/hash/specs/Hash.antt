-- What any hash function answers to a message in two parts, and what it then writes.
-- Assumes nothing.
use Rattle.std.specs.Prelude.{ℕ, Bool, cond, ◌&&◌, List, ◌++◌, length, Ok, Err, Result, nat_le}
use Rattle.terms.specs.declared.refusal.Refusal.{Refusal}
use Rattle.terms.specs.declared.refusal.Refusal.TheVariants.{PartTooLong}

-- a string of bytes
abbrev pub Bytes : Type 0
Bytes = List ℕ

-- the most bytes that a part may have
abbrev pub most_part : ℕ
most_part = 65536

-- no part is too long
abbrev pub short : Bytes → Bytes → Bool
short first second = nat_le (length first) most_part && nat_le (length second) most_part

-- the message of two parts
abbrev pub parted : Bytes → Bytes → Result (Bytes × Bytes) Refusal
parted first second = cond (short first second) (Ok (first, second)) (Err PartTooLong)

-- the answer to two parts
abbrev pub answered : Bytes → Bytes → Result (Unit {0}) Refusal
answered first second = cond (short first second) (Ok tt) (Err PartTooLong)

-- what is written over out: the digest, or nothing
abbrev pub written : (Bytes → Bytes) → Bytes → Bytes → Bytes → Bytes
written d first second out = cond (short first second) (d (first ++ second)) out
