-- The table that bytes mean, and what a put makes of it.
-- Assumes nothing.
use Rattle.std.specs.Prelude.{◌≡◌, ℕ, ◌+◌, ◌≤◌, true, false, ◌⊎◌, List, length, take, drop, Ok, refl}
use Rattle.std.proofs.Common.{inl, inr, sym, ap, subst, ◌∙◌, arith}
use Rattle.std.proofs.Math.Path.{fun_ext}
use Rattle.std.proofs.lemmas.Bool.{cases_Bool}
use Rattle.terms.specs.Places.{inside, record_length, same_place}
use Rattle.terms.specs.declared.place.Place.{Place}
use Rattle.store.specs.Bytes.{overwritten}
use Rattle.store.specs.Store.{Kept, admitted, onward, written, Question.asks_put}
use Rattle.flat.specs.Layout.{flat_meaning, flat_span, flat_table, offset}
use Rattle.store.proofs.Replies.{admitted_parts, same_place_lem}
use Rattle.store.proofs.Overwrites.{length-overwritten, overwritten_apart, overwritten_here}
use Rattle.flat.specs.Sized.{record_fits, span}
use Rattle.flat.proofs.Offsets.{places_apart}

-- a table has one record set where the bytes of no other place change
abbrev part : ℕ → Place → List ℕ → List ℕ
part c p bytes = take (record_length p) (drop (offset c p) bytes)

table_written : (c : ℕ) (bytes new r : List ℕ) (p : Place) → inside c p ≡ true → part c p new ≡ r → ((q : Place) → inside c q ≡ true → same_place p q ≡ false → part c q new ≡ part c q bytes) → flat_table c new ≡ written (flat_table c bytes) p r
table_written c bytes new r p t here apart = fun_ext (λ q. at q (cases_Bool (same_place p q)) (cases_Bool (inside c q)))
  where
    at : (q : Place) → (same_place p q ≡ true) ⊎ (same_place p q ≡ false) → (inside c q ≡ true) ⊎ (inside c q ≡ false) → flat_table c new q ≡ written (flat_table c bytes) p r q
    at q (inl same) u = grind (arith, here, same_place_lem p q same)
    at q (inr other) (inl u) = grind (arith, apart q u other)
    at q (inr other) (inr f) = grind arith

-- so it is where a record is written over
table_overwritten : (c : ℕ) (bytes r : List ℕ) (p : Place) → inside c p ≡ true → length r ≡ record_length p → offset c p + length r ≤ length bytes → flat_table c (overwritten bytes (offset c p) r) ≡ written (flat_table c bytes) p r
table_overwritten c bytes r p t len fits =
    table_written c bytes (overwritten bytes (offset c p) r) r p t
    (ap (λ n. take n (drop (offset c p) (overwritten bytes (offset c p) r))) (sym len) ∙ overwritten_here bytes r (offset c p) fits)
    (λ q u f. overwritten_apart bytes r (offset c p) (offset c q) (record_length q) fits (subst (λ n. (offset c p + n ≤ offset c q) ⊎ (offset c q + record_length q ≤ offset c p)) (sym len) (places_apart c p q t u f)))

-- an accepted put leaves what a store that keeps its word does
pub put_kept : (bytes r : List ℕ) (p : Place) → Ok tt ≡ admitted p (length r) (span bytes) → Kept (flat_meaning bytes) (asks_put p r) (Ok tt) (flat_meaning (overwritten bytes (offset (span bytes) p) r))
put_kept bytes r p a = record {
  reply = ap (λ o. onward o (Ok tt)) a;
  left = record {
    table = ap (λ c. flat_table c new) same ∙ table_overwritten (span bytes) bytes r p is.1 is.0 fits;
    span = same;
    least = omega arith;
    most = omega arith;
    truthful = refl;
  };
}
  where
    new : List ℕ
    new = overwritten bytes (offset (span bytes) p) r

    is : (length r ≡ record_length p) × (inside (span bytes) p ≡ true)
    is = admitted_parts p (length r) (span bytes) (sym a)

    fits : offset (span bytes) p + length r ≤ length bytes
    fits = omega (arith, is.0, record_fits (length bytes) (span bytes) p refl is.1)

    same : span new ≡ span bytes
    same = ap flat_span (length-overwritten bytes r (offset (span bytes) p) fits)
