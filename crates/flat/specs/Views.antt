-- What a value of the code stands for.
-- Assumes nothing.
use Rattle.std.specs.Prelude.{◌≡◌, ℕ, ◌+◌, ◌≤◌, Ok, Err, Result, vec_items, vec_len}
use Rattle.std.specs.declared.ops.Range.{Range}
use Rattle.terms.specs.declared.cause.Cause.{Cause}
use Rattle.terms.specs.declared.place.Place.{Place}
use Rattle.store.specs.Bytes.{put_over}
use Rattle.store.specs.Store.{Answer, Meaning, Question, admitted}
use Rattle.store.specs.Store.{Question.asks_get, Question.asks_put, Question.asks_room, Question.asks_span}
use Rattle.flat.specs.Layout.{flat_meaning, offset}
use Rattle.flat.specs.declared.flat.Flat.{Flat}

-- what a flat store means: what its bytes mean
abbrev pub flat_of : Flat → Meaning
flat_of f = flat_meaning (vec_items f.bytes)

-- which of its bytes are a record of n bytes at a place, if one is admitted there
abbrev pub Lies : Flat → Place → ℕ → Result (Range ℕ) Cause → Type 0
Lies f p n (Ok part) = (Ok tt ≡ admitted p n f.span) × (part.start ≡ offset f.span p) × (part.end ≡ part.start + n) × (part.end ≤ vec_len f.bytes)
Lies f p n (Err why) = Err why ≡ admitted p n f.span

-- what a question with its answer leaves of its bytes: only an accepted put changes any, those of its place
abbrev pub FlatDoes : Flat → (q : Question) → Answer q → Flat → Type 0
FlatDoes f asks_span a f' = f' ≡ f
FlatDoes f asks_room a f' = f' ≡ f
FlatDoes f (asks_get p n) a f' = f' ≡ f
FlatDoes f (asks_put p r) a f' = vec_items f'.bytes ≡ put_over a (vec_items f.bytes) (offset f.span p) r
