-- Tagged fields: one byte tag, two bytes length, the content; every number stands highest byte first.
-- Assumes nothing.
use Rattle.std.specs.Prelude.{ℕ, ◌+◌, ◌-◌, ◌*◌, ◌/◌, ◌%◌, ◌^◌, Bool, cond, ◌&&◌, List, [], ◌∷◌, ◌++◌, length, take, drop, Some, None, Ok, Err, Option, Result, ◌==◌, nat_le, nat_lt, slice_index}
use Rattle.fields.specs.declared.bad_field.BadField.{BadField}

-- where a reading stands: the next field starts at `at` of the bytes, and nothing is read from `end` on
pub record Reading : Type 0 where
  pub bytes : List ℕ
  pub at : ℕ
  pub end : ℕ

-- the reading of all bytes that stands at i
abbrev pub from : List ℕ → ℕ → Reading
from s i = record { bytes = s; at = i; end = length s }

-- the number in the two bytes from i on
abbrev pub big2 : List ℕ → ℕ → ℕ
big2 s i = slice_index s i * 2 ^ 8 + slice_index s (i + 1)

-- the number in the four bytes from i on
abbrev pub big4 : List ℕ → ℕ → ℕ
big4 s i = slice_index s i * 2 ^ 24 + slice_index s (i + 1) * 2 ^ 16 + slice_index s (i + 2) * 2 ^ 8 + slice_index s (i + 3)

-- whether the next field has tag t and n bytes of content, and ends by the end
abbrev pub has_field : Reading → ℕ → ℕ → Bool
has_field r t n = nat_le (r.at + (n + 3)) r.end && slice_index r.bytes r.at == t && big2 r.bytes (r.at + 1) == n

-- the content of a field with tag t that takes up all of s
abbrev pub whole : List ℕ → ℕ → Option (List ℕ)
whole s t = cond (has_field (from s 0) t (length s - 3)) (Some (drop 3 s)) None

-- its content: n bytes; their first one; the number in the first four
abbrev pub content : Reading → ℕ → List ℕ
content r n = take n (drop (r.at + 3) r.bytes)

abbrev pub byte : Reading → ℕ
byte r = slice_index r.bytes (r.at + 3)

abbrev pub number : Reading → ℕ
number r = big4 r.bytes (r.at + 3)

-- the refusal of the next field, by its offset
abbrev pub bad : Reading → BadField
bad r = record { at = r.at }

-- what a reading of the field gives: v, or its refusal
abbrev pub given : {X : Type 0} → Reading → ℕ → ℕ → X → Result X BadField
given r t n v = cond (has_field r t n) (Ok v) (Err (bad r))

-- where the reading then stands: past n bytes of content, or as before
abbrev pub past : Reading → ℕ → Reading
past r n = record { bytes = r.bytes; at = r.at + (n + 3); end = r.end }

abbrev pub after : Reading → ℕ → ℕ → Reading
after r t n = cond (has_field r t n) (past r n) r

-- that nothing is left; else the offset of the first byte that is
abbrev pub ended : Reading → Result (Unit {0}) BadField
ended r = cond (nat_lt r.at r.end) (Err (bad r)) (Ok tt)

-- a number in two bytes, and in four
abbrev pub bytes2 : ℕ → List ℕ
bytes2 n = (n / 2 ^ 8 % 256) ∷ (n % 256) ∷ []

abbrev pub bytes4 : ℕ → List ℕ
bytes4 n = (n / 2 ^ 24 % 256) ∷ (n / 2 ^ 16 % 256) ∷ (n / 2 ^ 8 % 256) ∷ (n % 256) ∷ []

-- a field with tag t and n bytes of content, written
abbrev pub field : ℕ → List ℕ → ℕ → List ℕ
field t content n = t ∷ (bytes2 n ++ content)
