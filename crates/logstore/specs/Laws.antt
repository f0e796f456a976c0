-- What follows from the form of a log.
-- Assumes nothing.
use Rattle.std.specs.Prelude.{◌≡◌, ℕ, ◌+◌, ◌≤◌, true, ◌⊎◌, List, [], ◌++◌, length, take, replicate, Some, None}
use Rattle.terms.specs.Levels.{most_blocks}
use Rattle.terms.specs.Places.{inside, record_length}
use Rattle.terms.specs.declared.place.Place.{Place}
use Rattle.store.specs.Store.{written}
use Rattle.logstore.specs.Records.{Whole, content_at, log_meaning, log_table, longest, record_at, record_bytes, size, stop_of}

-- the log of no bytes holds nothing
abbrev pub EmptyLog : Type 0
EmptyLog = Whole [] × ((p : Place) → log_table [] p ≡ None)

-- a record behind a log's last one makes a log, and sets its place
abbrev pub OneRecordMore : Type 0
OneRecordMore = (bs r : List ℕ) (p : Place) → Whole bs → inside most_blocks p ≡ true → length r ≡ record_length p → Whole (bs ++ record_bytes p r) × (log_table (bs ++ record_bytes p r) ≡ written (log_table bs) p r)

-- bytes that end in a record, of which the rest is a log
abbrev pub Ends : List ℕ → Type 0
Ends bs = (at : ℕ) × ((p : Place) × (Whole (take at bs) × (record_at bs at ≡ Some p) × (at + size p ≡ length bs)))

-- every log is empty, or ends in a record
abbrev pub EndsInARecord : Type 0
EndsInARecord = (bs : List ℕ) → Whole bs → (length bs ≡ 0) ⊎ Ends bs

-- and the record that it ends in sets its place: with the empty log, this says what every log's table is
abbrev pub LastRecordCounts : Type 0
LastRecordCounts = (bs : List ℕ) (at : ℕ) (p : Place) → Whole (take at bs) → record_at bs at ≡ Some p → at + size p ≡ length bs → log_table bs ≡ written (log_table (take at bs)) p (content_at bs p at)

-- what the table shows stands in the bytes, whole, as a record for its place
abbrev pub ShownRecordsStand : Type 0
ShownRecordsStand = (bs r : List ℕ) (p : Place) → log_table bs p ≡ Some r → (at : ℕ) × ((record_at bs at ≡ Some p) × (at + size p ≤ length bs) × (r ≡ content_at bs p at))

-- what lies before the stop is all records, and at the stop none stands
abbrev pub StopsAtNoRecord : Type 0
StopsAtNoRecord = (bs : List ℕ) → (record_at bs (stop_of bs) ≡ None) × (stop_of bs ≤ length bs) × Whole (take (stop_of bs) bs)

-- no record is longer than the longest
abbrev pub LongestRecord : Type 0
LongestRecord = (p : Place) → size p ≤ longest

-- rooms of some logs
abbrev pub RoomCases : Type 0
RoomCases = ((log_meaning (replicate 1028 0) 0).room ≡ 0) × ((log_meaning (replicate 1029 0) 0).room ≡ 1)
