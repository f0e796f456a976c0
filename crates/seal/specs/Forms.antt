-- What seals and slips have in common: fields in a fixed order, of which the first bad one decides.
-- Assumes nothing.
use Rattle.std.specs.Prelude.{ℕ, Bool, true, false, cond, ◌&&◌, List, [], ◌∷◌, Some, None, Ok, Err, Option, Result, nat_le, nat_lt, slice_index}
use Rattle.fields.specs.Fields.{Reading, from, big4, has_field, byte, number, bad, past, after}
use Rattle.fields.specs.declared.bad_field.BadField.{BadField}
use Rattle.seal.specs.declared.header.Header.{Header}
use Rattle.terms.specs.Levels.{most_blocks}
use Rattle.hash.specs.Hash.{Bytes}

-- the offset of the first test that fails
abbrev pub first_bad : List (ℕ × Bool) → Option ℕ
first_bad [] = None
first_bad (t ∷ ts) = elim t.1 [ true ↦ first_bad ts | false ↦ Some t.0 ]

-- a value, where there is no fault; else the fault's offset
abbrev pub unless_fault : {X : Type 0} → Option ℕ → X → Result X BadField
unless_fault None v = Ok v
unless_fault (Some i) v = Err (record { at = i })

-- a value, where it passed the test; else what is wrong
abbrev pub tested : {X E : Type 0} → Bool → E → X → Result X E
tested b e v = cond b (Ok v) (Err e)

-- the same of what a reading gives, where what is wrong is named by its offset
abbrev pub at_offset : {X : Type 0} → Bool → Reading → X → Result X BadField
at_offset b r v = tested b (bad r) v

-- tag 1, one byte: the kind of the hash, never 0
abbrev pub kind_at : Reading → Bool
kind_at r = has_field r 1 1 && nat_lt 0 (byte r)

abbrev pub kind_of : Bytes → ℕ
kind_of s = slice_index s 3

abbrev pub kind_field : Bytes → Bool
kind_field s = kind_at (from s 0)

-- tag 2, four bytes: the count of blocks, from the least that is allowed to the most
abbrev pub count_at : ℕ → Reading → Bool
count_at least r = has_field r 2 4 && nat_le least (number r) && nat_le (number r) most_blocks

abbrev pub count_of : Bytes → ℕ
count_of s = big4 s 7

abbrev pub count_field : ℕ → Bytes → Bool
count_field least s = count_at least (from s 4)

-- the kind and then the count; else the offset of the bad one
abbrev pub head_answer : ℕ → Reading → Result Header BadField
head_answer least r =
    cond (kind_at r) (at_offset (count_at least (past r 1)) (past r 1) (record { kind = byte r; count = number (past r 1) })) (Err (bad r))

-- where the reading then stands
abbrev pub head_after : Reading → Reading
head_after r = cond (kind_at r) (after (past r 1) 2 4) (after r 1 1)
