-- What follows from a truthful store's replies.
-- Assumes nothing.
use Rattle.std.specs.Prelude.{◌≡◌, ℕ, true, false, List, Ok}
use Rattle.terms.specs.Places.{record_length, same_place}
use Rattle.terms.specs.declared.place.Place.{Place}
use Rattle.store.specs.Store.{Meaning, Kept, reply_of}
use Rattle.store.specs.Store.{Question.asks_get, Question.asks_put}

-- the test of two places tells whether they are equal
abbrev pub PlacesAreToldApart : Type 0
PlacesAreToldApart = (p q : Place) → (same_place p q ≡ true → p ≡ q) × (p ≡ q → same_place p q ≡ true)

-- what was put is what is got there
abbrev pub PutIsGot : Type 0
PutIsGot = (m m' : Meaning) (p : Place) (r : List ℕ) → Kept m (asks_put p r) (Ok tt) m' → reply_of m' (asks_get p (record_length p)) ≡ Ok r

-- what is got elsewhere is what was got there before
abbrev pub OthersStay : Type 0
OthersStay = (m m' : Meaning) (p q : Place) (r : List ℕ) (n : ℕ) → Kept m (asks_put p r) (Ok tt) m' → same_place p q ≡ false → reply_of m' (asks_get q n) ≡ reply_of m (asks_get q n)
