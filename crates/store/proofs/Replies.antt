-- A truthful reply, by what the admission says.
-- Assumes nothing.
use Rattle.std.proofs.Common.{◌≡◌, ℕ, ◌≤◌, true, cond, eqb, List, length, Ok, Err, Result, sym, ap, ◌∙◌, arith}
use Rattle.std.proofs.lemmas.Bool.{leb-true, ltb-true, le-leb, lt-ltb, eq-eqb, ne_eqb, cond-true, cond-false}
use Rattle.std.proofs.lemmas.Bool.Decides.{nat_tests}
use Rattle.terms.specs.Places.{inside, record_length, same_place}
use Rattle.terms.specs.declared.cause.Cause.{Cause}
use Rattle.terms.specs.declared.cause.Cause.TheVariants.{Full}
use Rattle.terms.specs.declared.place.Place.{Place}
use Rattle.terms.specs.declared.place.Place.TheVariants.{Block, Node}
use Rattle.store.specs.Store.{Meaning, admitted, found, onward, reply_of}
use Rattle.store.specs.Store.{Question.asks_get, Question.asks_put}

-- a larger span has the places of a smaller one
pub inside_more : (p : Place) (x y : ℕ) → x ≤ y → inside x p ≡ true → inside y p ≡ true
inside_more (Block i) x y le e = lt-ltb _ _ (omega (arith, ltb-true i.0 x e))
inside_more (Node l j) x y le e = le-leb _ _ (omega (arith, leb-true _ x e))

-- places that pass for one are equal
pub same_place_lem : (p q : Place) → same_place p q ≡ true → p ≡ q
same_place_lem p q t = grind arith

-- what is admitted has the length of its place's record, and lies inside the span
pub admitted_parts : (p : Place) (n span : ℕ) → admitted p n span ≡ Ok tt → (n ≡ record_length p) × (inside span p ≡ true)
admitted_parts p n span e = grind (arith, nat_tests)

pub admitted_by : (p : Place) (n span : ℕ) → n ≡ record_length p → inside span p ≡ true → admitted p n span ≡ Ok tt
admitted_by p n span long within = cond-true _ _ _ (eq-eqb n (record_length p) long) ∙ cond-true _ _ _ within

-- what a test by a span that is known to be another's says of that one
pub admission : (p : Place) (n s span : ℕ) (a v : Result (Unit {0}) Cause) → a ≡ admitted p n s → s ≡ span → a ≡ v → admitted p n span ≡ v
admission p n s span a v e f h = ap (admitted p n) (sym f) ∙ sym e ∙ h

-- the replies to what is admitted, and to what is not
pub get_admitted : (m : Meaning) (p : Place) (n : ℕ) → admitted p n m.span ≡ Ok tt → reply_of m (asks_get p n) ≡ found (m.table p)
get_admitted m p n e = ap (λ a. onward a (found (m.table p))) e

pub get_refused : (m : Meaning) (p : Place) (n : ℕ) (c : Cause) → admitted p n m.span ≡ Err c → reply_of m (asks_get p n) ≡ Err c
get_refused m p n c e = ap (λ a. onward a (found (m.table p))) e

pub put_admitted : (m : Meaning) (p : Place) (r : List ℕ) → admitted p (length r) m.span ≡ Ok tt → (m.room ≡ 0 → ⊥) → reply_of m (asks_put p r) ≡ Ok tt
put_admitted m p r e some = ap (λ a. onward a (cond (eqb m.room 0) (Err Full) (Ok tt))) e ∙ cond-false _ _ _ (ne_eqb m.room 0 some)

pub put_full : (m : Meaning) (p : Place) (r : List ℕ) → admitted p (length r) m.span ≡ Ok tt → m.room ≡ 0 → reply_of m (asks_put p r) ≡ Err Full
put_full m p r e none = ap (λ a. onward a (cond (eqb m.room 0) (Err Full) (Ok tt))) e ∙ cond-true _ _ _ (eq-eqb m.room 0 none)

pub put_refused : (m : Meaning) (p : Place) (r : List ℕ) (c : Cause) → admitted p (length r) m.span ≡ Err c → reply_of m (asks_put p r) ≡ Err c
put_refused m p r c e = ap (λ a. onward a (cond (eqb m.room 0) (Err Full) (Ok tt))) e
