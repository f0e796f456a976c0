-- What a store means, what it may be asked, and what a truthful one replies.
-- Assumes nothing.
use Rattle.std.specs.Prelude.{◌≡◌, ℕ, ◌+◌, ◌≤◌, Bool, true, cond, List, length, Some, None, Ok, Err, Option, Result, ◌==◌}
use Rattle.terms.specs.Places.{inside, record_length, same_place}
use Rattle.terms.specs.declared.cause.Cause.{Cause}
use Rattle.terms.specs.declared.cause.Cause.TheVariants.{Nothing, Outside, Length, Full}
use Rattle.terms.specs.declared.place.Place.{Place}

-- the record at each place, or nothing
abbrev pub Table : Type 0
Table = Place → Option (List ℕ)

-- what a store means: its table, how many blocks it has places for, how many records more it takes, and whether it keeps its word
pub record Meaning : Type 0 where
  pub table : Table
  pub span : ℕ
  pub room : ℕ
  pub truthful : Bool

-- what a store may be asked: a get names its buffer's length, a put its record
pub data Question : Type 0 where
  asks_span : Question
  asks_room : Question
  asks_get : Place → ℕ → Question
  asks_put : Place → List ℕ → Question

-- what can be answered to a question: a number, the record got, or that it was put; or why not
abbrev pub Answer : Question → Type 0
Answer asks_span = ℕ
Answer asks_room = ℕ
Answer (asks_get p n) = Result (List ℕ) Cause
Answer (asks_put p r) = Result (Unit {0}) Cause

-- whether a record of n bytes can lie at a place: its length, and then the span
abbrev pub admitted : Place → ℕ → ℕ → Result (Unit {0}) Cause
admitted p n span = cond (n == record_length p) (cond (inside span p) (Ok tt) (Err Outside)) (Err Length)

-- what comes after a test that may refuse
abbrev pub onward : {X : Type 0} → Result (Unit {0}) Cause → Result X Cause → Result X Cause
onward (Ok u) x = x
onward (Err c) x = Err c

-- what a look at a table finds
abbrev pub found : Option (List ℕ) → Result (List ℕ) Cause
found None = Err Nothing
found (Some r) = Ok r

-- a truthful store's reply
abbrev pub reply_of : Meaning → (q : Question) → Answer q
reply_of m asks_span = m.span
reply_of m asks_room = m.room
reply_of m (asks_get p n) = onward (admitted p n m.span) (found (m.table p))
reply_of m (asks_put p r) = onward (admitted p (length r) m.span) (cond (m.room == 0) (Err Full) (Ok tt))

-- a table with one place set
abbrev pub written : Table → Place → List ℕ → Table
written t p r q = cond (same_place p q) (Some r) (t q)

-- what an accepted put leaves; how far it lowers the room is all that is left open
pub record Taken (p : Place) (r : List ℕ) (m m' : Meaning) : Type 0 where
  pub table : m'.table ≡ written m.table p r
  pub span : m'.span ≡ m.span
  pub least : m.room ≤ m'.room + 1
  pub most : m'.room ≤ m.room
  pub truthful : m'.truthful ≡ m.truthful

-- what a question with its answer leaves: only an accepted put changes anything
abbrev pub Left : (q : Question) → Answer q → Meaning → Meaning → Type 0
Left asks_span a m m' = m' ≡ m
Left asks_room a m m' = m' ≡ m
Left (asks_get p n) a m m' = m' ≡ m
Left (asks_put p r) (Ok u) m m' = Taken p r m m'
Left (asks_put p r) (Err c) m m' = m' ≡ m

-- one question, asked of a store that keeps its word
pub record Kept (m : Meaning) (q : Question) (a : Answer q) (m' : Meaning) : Type 0 where
  pub reply : a ≡ reply_of m q
  pub left : Left q a m m'

-- one question, asked of any store: nothing is known of one that does not keep its word
abbrev pub Told : Meaning → (q : Question) → Answer q → Meaning → Type 0
Told m q a m' = m.truthful ≡ true → Kept m q a m'

-- the answer that a get's result is, with what its buffer then holds
abbrev pub got : Result (Unit {0}) Cause → List ℕ → Result (List ℕ) Cause
got (Ok u) out = Ok out
got (Err c) out = Err c

-- what a get with this answer leaves in its buffer
abbrev pub filled : Result (List ℕ) Cause → List ℕ → List ℕ
filled (Ok r) old = r
filled (Err c) old = old

-- a truthful store's buffer after a get
abbrev pub Fills : Meaning → Place → List ℕ → List ℕ → Type 0
Fills m p old new = m.truthful ≡ true → new ≡ filled (reply_of m (asks_get p (length old))) old

-- each record of a truthful store has its place's length
abbrev pub Sized : Meaning → Type 0
Sized m = m.truthful ≡ true → (p : Place) (r : List ℕ) → m.table p ≡ Some r → length r ≡ record_length p
