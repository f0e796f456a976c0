-- The record at an offset: what it says, and that it stays where bytes are added behind.
-- Assumes nothing.
use Rattle.std.specs.Prelude.{◌≡◌, ℕ, ◌+◌, ◌*◌, ◌/◌, ◌%◌, ◌^◌, ◌<◌, ◌≤◌, true, false, List, ◌++◌, length, take, Some, None, Option, ◌≢◌, slice_index, refl}
use Rattle.std.proofs.Common.{sym, ap, ◌∙◌, arith}
use Rattle.std.proofs.lemmas.List.{length-append, length-take-le, get_or_append_left, get_or-append-add, get_or-take}
use Rattle.std.proofs.lemmas.Bool.{ltb-true, and_from, and_left, and_right, le-leb, lt-leb, eq-eqb, ne_eqb, cond-true, cond-false}
use Rattle.terms.specs.Levels.{most_blocks}
use Rattle.terms.specs.Places.{inside, record_length}
use Rattle.terms.specs.declared.place.Place.{Place}
use Rattle.terms.specs.declared.place.Place.TheVariants.{Block, Node}
use Rattle.fields.specs.Fields.{big2, from, has_field}
use Rattle.logstore.specs.Records.{limited, record_at, record_bytes, size}
use Rattle.logstore.specs.Sized.{Field, Stands, Stands.as_block, Stands.as_node, Stands.no_record, block_at, node_at, record_is, stands}
use Rattle.logstore.proofs.Slots.{number_low}

has_field_lem : (s : List ℕ) (i t n : ℕ) → Field (from s i) t n → has_field (from s i) t n ≡ true
has_field_lem s i t n f = and_from _ _ (and_from _ _ (le-leb _ _ f.fits) (eq-eqb _ _ f.tag)) (eq-eqb _ _ f.long)

-- none stands where the tag is another, or where the end is too near
other_tag : (s : List ℕ) (i t u n : ℕ) → slice_index s i ≡ u → (u ≢ t) → has_field (from s i) t n ≡ false
other_tag s i t u n e ne = and_left _ _ (and_right _ _ (ne_eqb _ _ (λ f. ne (sym e ∙ f))))

cut_field : (s : List ℕ) (i t n : ℕ) → length s < i + (n + 3) → has_field (from s i) t n ≡ false
cut_field s i t n far = and_left _ _ (and_left _ _ (lt-leb _ _ far))

-- and the record that is then read
pub block_read : (bs : List ℕ) (at : ℕ) → Field (from bs at) 16 1026 → record_at bs at ≡ limited (block_at bs at)
block_read bs at f = cond-true _ _ _ (has_field_lem bs at 16 1026 f)

pub node_read : (bs : List ℕ) (at : ℕ) → Field (from bs at) 17 35 → record_at bs at ≡ limited (node_at bs at)
node_read bs at f = cond-false _ _ _ (other_tag bs at 16 17 1026 f.tag (λ e. omega arith)) ∙ cond-true _ _ _ (has_field_lem bs at 17 35 f)

-- none stands at the end
pub record_end : (bs : List ℕ) (at : ℕ) → length bs ≤ at → record_at bs at ≡ None
record_end bs at far = cond-false _ _ _ (cut_field bs at 16 1026 (omega arith)) ∙ cond-false _ _ _ (cut_field bs at 17 35 (omega arith))

-- it is the same wherever its own bytes are the same
big2_same : (bs bs' : List ℕ) (i : ℕ) → slice_index bs' i ≡ slice_index bs i → slice_index bs' (i + 1) ≡ slice_index bs (i + 1) → big2 bs' i ≡ big2 bs i
big2_same bs bs' i a b = ap (λ n. n * 2 ^ 8 + slice_index bs' (i + 1)) a ∙ ap (λ n. slice_index bs i * 2 ^ 8 + n) b

module _ (bs bs' : List ℕ) (at end : ℕ) (room : end ≤ length bs') (same : (k : ℕ) → k < end → slice_index bs' k ≡ slice_index bs k) where
  field_same : (t n : ℕ) → Field (from bs at) t n → at + (n + 3) ≤ end → Field (from bs' at) t n
  field_same t n f low = record { fits = omega arith; tag = same at (omega arith) ∙ f.tag; long = big2_same bs bs' (at + 1) (same (at + 1) (omega arith)) (same (at + 1 + 1) (omega arith)) ∙ f.long }

  pub record_same : (q : Place) → at + size q ≤ end → record_at bs at ≡ Some q → record_at bs' at ≡ Some q
  record_same q low e = go (record_at bs at) (stands bs at) e
    where
      go : (o : Option Place) → Stands bs at o → o ≡ Some q → record_at bs' at ≡ Some q
      go (Some p) (as_block f w) h =
          let is : block_at bs at ≡ q = cc in
          let long : 1029 ≡ size q = ap size is in
          block_read bs' at (field_same 16 1026 f (omega arith)) ∙ ap (λ n. limited (Block (record { 0 = n }))) (big2_same bs bs' (at + 3) (same (at + 3) (omega arith)) (same (at + 3 + 1) (omega arith))) ∙ cond-true _ _ _ w ∙ h
      go (Some p) (as_node f w) h =
          let is : node_at bs at ≡ q = cc in
          let long : 38 ≡ size q = ap size is in
          node_read bs' at (field_same 17 35 f (omega arith))
          ∙ ap (λ n. limited (Node (record { 0 = n }) (record { 0 = big2 bs' (at + 4) }))) (same (at + 3) (omega arith))
          ∙ ap (λ n. limited (Node (record { 0 = slice_index bs (at + 3) }) (record { 0 = n }))) (big2_same bs bs' (at + 4) (same (at + 4) (omega arith)) (same (at + 4 + 1) (omega arith)))
          ∙ cond-true _ _ _ w
          ∙ h
      go None no_record h = let z : ◌≡◌ {A = ℕ} 0 1 = cc in absurd (omega arith)

-- so with bytes added behind it, or taken away behind it
pub record_more : (bs x : List ℕ) (at : ℕ) (q : Place) → record_at bs at ≡ Some q → record_at (bs ++ x) at ≡ Some q
record_more bs x at q e = record_same bs (bs ++ x) at (length bs) (omega (arith, length-append bs x)) (λ k low. get_or_append_left bs x 0 k low) q (record_is bs at q e).fits e

pub record_cut : (bs : List ℕ) (at n : ℕ) (q : Place) → at + size q ≤ n → n ≤ length bs → record_at bs at ≡ Some q → record_at (take n bs) at ≡ Some q
record_cut bs at n q low fits e = record_same bs (take n bs) at n (omega (arith, length-take-le n bs fits)) (λ k lt. get_or-take n bs k 0 lt) q low e

-- a record that is written behind the last one is read as what it was written for
byte_back : (bs x : List ℕ) (i k : ℕ) → i ≡ length bs + k → slice_index (bs ++ x) i ≡ slice_index x k
byte_back bs x i k e = ap (λ n. slice_index (bs ++ x) n) e ∙ get_or-append-add bs x k 0

big2_back : (bs x : List ℕ) (i k : ℕ) → i ≡ length bs + k → big2 (bs ++ x) i ≡ big2 x k
big2_back bs x i k e =
    let a : slice_index (bs ++ x) i ≡ slice_index x k = byte_back bs x i k e in
    let b : slice_index (bs ++ x) (i + 1) ≡ slice_index x (k + 1) = byte_back bs x (i + 1) (k + 1) (omega arith) in
    ap (λ n. n * 2 ^ 8 + slice_index (bs ++ x) (i + 1)) a ∙ ap (λ n. slice_index x k * 2 ^ 8 + n) b

two_bytes : (n : ℕ) → n < 2 ^ 16 → (n / 2 ^ 8 % 256) * 2 ^ 8 + n % 256 ≡ n
two_bytes n low = omega arith

pub record_new : (bs r : List ℕ) (q : Place) → inside most_blocks q ≡ true → length r ≡ record_length q → record_at (bs ++ record_bytes q r) (length bs) ≡ Some q
record_new bs r (Block i) w l =
    let x = record_bytes (Block i) r in
    let at = length bs in
    let few : i.0 < 2 ^ 16 = omega (arith, ltb-true i.0 most_blocks w) in
    let f : Field (from (bs ++ x) at) 16 1026 = record { fits = omega (arith, length-append bs x); tag = byte_back bs x at 0 (omega arith); long = big2_back bs x (at + 1) 1 refl } in
    block_read (bs ++ x) at f ∙ ap (λ n. limited (Block (record { 0 = n }))) (big2_back bs x (at + 3) 3 refl ∙ two_bytes i.0 few) ∙ cond-true _ _ _ w
record_new bs r (Node v j) w l =
    let x = record_bytes (Node v j) r in
    let at = length bs in
    let few : j.0 < 2 ^ 16 = omega (arith, number_low (Node v j) v j refl w) in
    let f : Field (from (bs ++ x) at) 17 35 = record { fits = omega (arith, length-append bs x); tag = byte_back bs x at 0 (omega arith); long = big2_back bs x (at + 1) 1 refl } in
    node_read (bs ++ x) at f
    ∙ ap (λ n. limited (Node (record { 0 = n }) (record { 0 = big2 (bs ++ x) (at + 4) }))) (byte_back bs x (at + 3) 3 refl)
    ∙ ap (λ n. limited (Node v (record { 0 = n }))) (big2_back bs x (at + 4) 4 refl ∙ two_bytes j.0 few)
    ∙ cond-true _ _ _ w
