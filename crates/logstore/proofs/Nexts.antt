-- What reading a field says of the record that stands there.
-- Assumes nothing.
use Rattle.std.proofs.Common.{◌≡◌, ℕ, ◌+◌, ◌*◌, ◌^◌, ◌<◌, Bool, true, false, cond, List, length, get_or, take, drop, Ok, Err, Option, Result, sym, refl, ap, ◌∙◌, arith}
use Rattle.std.proofs.lemmas.List.{get_or-take, get_or-drop}
use Rattle.std.proofs.lemmas.Bool.{cond-false}
use Rattle.terms.specs.declared.place.Place.{Place}
use Rattle.terms.specs.declared.place.Place.TheVariants.{Node}
use Rattle.fields.specs.Fields.{Reading, after, big2, content, from, given, has_field}
use Rattle.fields.specs.declared.bad_field.BadField.{BadField}
use Rattle.logstore.specs.Records.{limited, record_at}
use Rattle.logstore.specs.Sized.{field_of}
use Rattle.logstore.proofs.Forms.{node_read}

-- what a reading that gave something says
gave : {X : Type 0} (b : Bool) (x v : X) (w : BadField) → ◌≡◌ {A = Result X BadField} (Ok x) (cond b (Ok v) (Err w)) → (b ≡ true) × (x ≡ v)
gave true x v w e = let same : x ≡ v = cc in (refl, same)
gave false x v w e = let z : ◌≡◌ {A = ℕ} 0 1 = cc in absurd (omega arith)

-- and one that gave nothing
stayed : {X : Type 0} (b : Bool) (v : X) (e w : BadField) → ◌≡◌ {A = Result X BadField} (Err e) (cond b (Ok v) (Err w)) → b ≡ false
stayed true v e w h = let z : ◌≡◌ {A = ℕ} 0 1 = cc in absurd (omega arith)
stayed false v e w h = refl

-- bytes of a part
part_byte : (s : List ℕ) (i n k j : ℕ) → k < n → j ≡ i + k → get_or (take n (drop i s)) k 0 ≡ get_or s j 0
part_byte s i n k j low e = get_or-take n (drop i s) k 0 low ∙ get_or-drop i s k 0 ∙ ap (λ m. get_or s m 0) (sym e)

part_big2 : (s : List ℕ) (i n k j : ℕ) → k + 1 < n → j ≡ i + k → big2 (take n (drop i s)) k ≡ big2 s j
part_big2 s i n k j low e =
    ap (λ m. m * 2 ^ 8 + get_or (take n (drop i s)) (k + 1) 0) (part_byte s i n k j (omega arith) e)
    ∙ ap (λ m. get_or s j 0 * 2 ^ 8 + m) (part_byte s i n (k + 1) (j + 1) low (omega arith))

-- the place in front of a digest that was read is the one of the record that stands there
pub node_next : (s rest : List ℕ) (at : ℕ) (o : Option Place) → Ok rest ≡ given (from s at) 17 35 (content (from s at) 35) → o ≡ limited (Node (record { 0 = get_or rest 0 0 }) (record { 0 = big2 rest 1 })) → o ≡ record_at s at
node_next s rest at o read e =
    let got = gave (has_field (from s at) 17 35) rest (take 35 (drop (at + 3) s)) (record { at = at }) read in
    let level : get_or rest 0 0 ≡ get_or s (at + 3) 0 = ap (λ (z : List ℕ). get_or z 0 0) got.1 ∙ part_byte s (at + 3) 35 0 (at + 3) (omega arith) (omega arith) in
    let number : big2 rest 1 ≡ big2 s (at + 4) = ap (λ (z : List ℕ). big2 z 1) got.1 ∙ part_big2 s (at + 3) 35 1 (at + 4) (omega arith) (omega arith) in
    e
    ∙ ap (λ n. limited (Node (record { 0 = n }) (record { 0 = big2 rest 1 }))) level
    ∙ ap (λ n. limited (Node (record { 0 = get_or s (at + 3) 0 }) (record { 0 = n }))) number
    ∙ sym (node_read s at (field_of (from s at) 17 35 got.0))

-- a reading of all bytes, by its end
pub whole_reading : (r : Reading) → r.end ≡ length r.bytes → r ≡ from r.bytes r.at
whole_reading r e = ap (λ n. record { bytes = r.bytes; at = r.at; end = n }) e

-- the reading after a field that is not there
pub missed : {X : Type 0} (r next : Reading) (t n : ℕ) (v : X) (e : BadField) → Err e ≡ given r t n v → next ≡ after r t n → next ≡ r
missed r next t n v e h moved = moved ∙ cond-false _ _ _ (stayed (has_field r t n) v e (record { at = r.at }) h)
