-- The bytes of a log: records one after another, of which the last one for a place counts.
-- Assumes nothing.
use Rattle.std.specs.Prelude.{◌≡◌, ℕ, zero, suc, ◌+◌, ◌-◌, ◌/◌, true, cond, List, ◌∷◌, ◌++◌, length, take, drop, Some, None, Ok, Err, Option, Result, ◌==◌, nat_le, slice_index}
use Rattle.std.specs.declared.ops.Range.{Range}
use Rattle.terms.specs.Levels.{most_blocks}
use Rattle.terms.specs.Places.{inside, record_length, same_place}
use Rattle.terms.specs.declared.cause.Cause.{Cause}
use Rattle.terms.specs.declared.place.Place.{Place}
use Rattle.terms.specs.declared.place.Place.TheVariants.{Block, Node}
use Rattle.terms.specs.declared.refusal.Refusal.{Refusal}
use Rattle.terms.specs.declared.refusal.Refusal.TheVariants.{LogForm}
use Rattle.fields.specs.Fields.{Reading, big2, bytes2, from, has_field}
use Rattle.store.specs.Store.{Meaning, Table}

-- what stands in front of a record's content: its tag, the length of the rest, and the place
abbrev pub header : Place → List ℕ
header (Block i) = 16 ∷ (bytes2 1026 ++ bytes2 i.0)
header (Node l j) = 17 ∷ (bytes2 35 ++ (l.0 ∷ bytes2 j.0))

-- how many bytes that is
abbrev pub header_length : Place → ℕ
header_length p = length (header p)

-- the bytes of a whole record
abbrev pub size : Place → ℕ
size p = header_length p + record_length p

-- the most bytes that a record takes up
abbrev pub longest : ℕ
longest = 1029

-- a place, if it lies among the most blocks
abbrev pub limited : Place → Option Place
limited p = cond (inside most_blocks p) (Some p) None

-- the place of the record at an offset, if a whole one stands there
abbrev pub record_at : List ℕ → ℕ → Option Place
record_at bs at =
    cond (has_field (from bs at) 16 1026)
    (limited (Block (record { 0 = big2 bs (at + 3) })))
    (cond (has_field (from bs at) 17 35) (limited (Node (record { 0 = slice_index bs (at + 3) }) (record { 0 = big2 bs (at + 4) }))) None)

-- one step over the records: the place of the next one and the bytes that it takes up, and the reading then stands behind it; or none stands there
abbrev pub Step : Reading → Option (Place × Range ℕ) → Reading → Type 0
Step r None next = record_at r.bytes r.at ≡ None
Step r (Some found) next = (record_at r.bytes r.at ≡ Some found.0) × (found.1.start ≡ r.at) × (found.1.end ≡ next.at) × (next ≡ from r.bytes (r.at + size found.0))

-- where the records from an offset on stop, after at most f of them: the first offset at which no whole record stands
unfoldable pub stop : ℕ → List ℕ → ℕ → ℕ
stop zero bs at = at
stop (suc f) bs at = elim (record_at bs at) [ None ↦ at | Some q ↦ stop f bs (at + size q) ]

-- the offset of the last record for a place among those, or else what was found before
unfoldable pub last : ℕ → List ℕ → ℕ → Place → Option ℕ → Option ℕ
last zero bs at p before = before
last (suc f) bs at p before = elim (record_at bs at) [ None ↦ before | Some q ↦ last f bs (at + size q) p (cond (same_place q p) (Some at) before) ]

-- where the records of a log stop, and the last one for a place; a record has a byte at least, so there are no more of them than bytes
abbrev pub stop_of : List ℕ → ℕ
stop_of bs = stop (length bs) bs 0

abbrev pub last_of : List ℕ → Place → Option ℕ
last_of bs p = last (length bs) bs 0 p None

-- bytes that are all records
abbrev pub Whole : List ℕ → Type 0
Whole bs = stop_of bs ≡ length bs

-- the content of the record for a place that starts at an offset
abbrev pub content_at : List ℕ → Place → ℕ → List ℕ
content_at bs p at = take (record_length p) (drop (at + header_length p) bs)

-- the table that records say
abbrev pub log_table : List ℕ → Table
log_table bs p = elim (last_of bs p) [ None ↦ None | Some at ↦ Some (content_at bs p at) ]

-- what bytes mean as a log, of which the first `used` are its records
abbrev pub log_meaning : List ℕ → ℕ → Meaning
log_meaning bytes used = record { table = log_table (take used bytes); span = most_blocks; room = (length bytes - used) / longest; truthful = true }

-- why bytes and a used length are no log: the length passes the bytes, or no whole record stands where one should
abbrev pub refusal_of : List ℕ → ℕ → Option Refusal
refusal_of bytes used = cond (nat_le used (length bytes)) (cond (stop_of (take used bytes) == used) None (Some (LogForm (stop_of (take used bytes))))) (Some (LogForm (length bytes)))

-- a record of a place and its content, written out
abbrev pub record_bytes : Place → List ℕ → List ℕ
record_bytes p r = header p ++ r

-- the used length after a put with this answer
abbrev pub used_after : Result (Unit {0}) Cause → ℕ → Place → ℕ
used_after (Ok u) used p = used + size p
used_after (Err c) used p = used
