-- What the reading of a field gives, at a value that is worked out from its content. Nothing here needs them: they are for whoever reads a field
-- by `field` or `array` and wants its byte or its number.
use Rattle.std.proofs.Common.{◌≡◌, ℕ, ◌+◌, ◌<◌, Bool, true, false, cond, List, get_or, take, drop, Ok, Err, Result, ap, ◌∙◌, add-zero, arith, lit<}
use Rattle.std.proofs.lemmas.List.{get_or-take, get_or-drop}
use Rattle.fields.specs.Fields.{Reading, big4, has_field, given}
use Rattle.fields.specs.declared.bad_field.BadField.{BadField}

by_test : {X Y : Type 0} (f : X → Y) (b : Bool) (x v : X) (i : BadField) → ◌≡◌ {A = Result X BadField} (Ok x) (cond b (Ok v) (Err i)) → ◌≡◌ {A = Result Y BadField} (Ok (f x)) (cond b (Ok (f v)) (Err i))
by_test f true x v i e = let p : x ≡ v = cc in ap (λ (z : _). Ok (f z)) p
by_test f false x v i e = let z : ◌≡◌ {A = ℕ} 0 1 = cc in absurd (omega arith)

pub given_map : {X Y : Type 0} (f : X → Y) (r : Reading) (t n : ℕ) (x v : X) (w : Y) → f v ≡ w → Ok x ≡ given r t n v → Ok (f x) ≡ given r t n w
given_map f r t n x v w p e = rw (← p) (by_test f (has_field r t n) x v (record { at = r.at }) e)

-- the bytes of the content
at_byte : (s : List ℕ) (i n k : ℕ) → k < n → get_or (take n (drop i s)) k 0 ≡ get_or s (i + k) 0
at_byte s i n k h = get_or-take n (drop i s) k 0 h ∙ get_or-drop i s k 0

pub content_byte : (s : List ℕ) (i : ℕ) → get_or (take 1 (drop i s)) 0 0 ≡ get_or s i 0
content_byte s i = rw add-zero at (at_byte s i 1 0 (lit< tt))

pub content_number : (s : List ℕ) (i : ℕ) → big4 (take 4 (drop i s)) 0 ≡ big4 s i
content_number s i =
    let first = rw add-zero at (at_byte s i 4 0 (lit< tt)) in
    rw (first, at_byte s i 4 1 (lit< tt), at_byte s i 4 2 (lit< tt), at_byte s i 4 3 (lit< tt))
