-- What a rewind does: it answers block 0 with the first block that was accepted there, and passes on all else.
-- Assumes nothing.
use Rattle.std.specs.Prelude.{◌≡◌, ℕ, Bool, false, cond, ◌&&◌, List, length, Some, None, Ok, Err, Option, Result, ◌==◌}
use Rattle.terms.specs.Places.{block_length}
use Rattle.terms.specs.declared.cause.Cause.{Cause}
use Rattle.terms.specs.declared.place.Place.{Place}
use Rattle.terms.specs.declared.place.Place.TheVariants.{Block, Node}
use Rattle.store.specs.Store.{Answer, Fills, Meaning, Question, Told, got}
use Rattle.store.specs.Store.{Question.asks_get, Question.asks_put, Question.asks_room, Question.asks_span}
use Rattle.rewind.specs.declared.rewind.Rewind.{Rewind}

-- the same store, not to be believed
abbrev pub untrue : Meaning → Meaning
untrue m = record { table = m.table; span = m.span; room = m.room; truthful = false }

-- whether a place is block 0, and n the length of a block
abbrev pub is_block_zero : Place → ℕ → Bool
is_block_zero (Block i) n = i.0 == 0 && n == block_length
is_block_zero (Node l j) n = false

-- what a get is answered with, where it is not passed on: the block that is remembered
abbrev pub recalled : Option (List ℕ) → Place → ℕ → Option (List ℕ)
recalled first p n = cond (is_block_zero p n) first None

-- what is remembered after a put with this answer: the first block that was accepted at number 0
abbrev pub remembered : Option (List ℕ) → Place → List ℕ → Result (Unit {0}) Cause → Option (List ℕ)
remembered (Some b) p r a = Some b
remembered None p r (Ok u) = cond (is_block_zero p (length r)) (Some r) None
remembered None p r (Err c) = None

-- what a get does with what is recalled: it answers with that and leaves the store alone, or else it is passed on
abbrev pub Recalls : {S : Type 0} → Option (List ℕ) → (S → Meaning) → S → Place → List ℕ → Result (Unit {0}) Cause → List ℕ → S → Type 0
Recalls (Some b) meaning s p old a new s' = (a ≡ Ok tt) × (new ≡ b) × (s' ≡ s)
Recalls None meaning s p old a new s' = Told (meaning s) (asks_get p (length old)) (got a new) (meaning s') × Fills (meaning s) p old new

-- what a get does, by what the rewind remembers
abbrev pub RewindGets : {S : Type 0} → (S → Meaning) → Rewind S → Place → List ℕ → Result (Unit {0}) Cause → List ℕ → Rewind S → Type 0
RewindGets meaning s p old a new s' = Recalls (recalled s.first p (length old)) meaning s.store p old a new s'.store

-- what it does at a question: all but a get is passed on, and only an accepted put changes what is remembered
abbrev pub RewindDoes : {S : Type 0} → (S → Meaning) → Rewind S → (q : Question) → Answer q → Rewind S → Type 0
RewindDoes meaning s asks_span a s' = Told (meaning s.store) asks_span a (meaning s'.store) × (s'.first ≡ s.first)
RewindDoes meaning s asks_room a s' = Told (meaning s.store) asks_room a (meaning s'.store) × (s'.first ≡ s.first)
RewindDoes meaning s (asks_get p n) a s' = s'.first ≡ s.first
RewindDoes meaning s (asks_put p r) a s' = Told (meaning s.store) (asks_put p r) a (meaning s'.store) × (s'.first ≡ remembered s.first p r a)
