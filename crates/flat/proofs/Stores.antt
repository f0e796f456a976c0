-- What the steps of a flat store come to.
-- Assumes nothing.
use Rattle.std.proofs.Common.{◌≡◌, ℕ, ◌+◌, ◌≤◌, true, List, length, Ok, vec_items, sym, ap, ◌∙◌, subst, arith}
use borrow.Rule.Slice.PartMut.{put_mid}
use Rattle.std.proofs.lemmas.List.{with_items_is}
use Rattle.std.specs.Vec.{with_items}
use Rattle.terms.specs.Places.{inside}
use Rattle.terms.specs.declared.place.Place.{Place}
use Rattle.store.specs.Bytes.{overwritten}
use Rattle.store.specs.Store.{Kept, admitted}
use Rattle.store.specs.Store.{Question.asks_put}
use Rattle.flat.specs.Layout.{flat_meaning, flat_span, offset}
use Rattle.flat.specs.Views.{flat_of}
use Rattle.flat.specs.declared.flat.Flat.{Flat}
use Rattle.store.proofs.Replies.{admitted_parts}
use Rattle.store.proofs.Overwrites.{length-overwritten, part_overwritten}
use Rattle.flat.specs.Sized.{record_fits}
use Rattle.flat.proofs.Tables.{put_kept}

-- the span that the store holds is that of its bytes
span_of : (f : Flat) → f.span ≡ flat_span (length (vec_items f.bytes))
span_of f = f.spans ∙ ap flat_span f.bytes.ok.0

admits : (f : Flat) (p : Place) (n : ℕ) → Ok tt ≡ admitted p n f.span → Ok tt ≡ admitted p n (flat_span (length (vec_items f.bytes)))
admits f p n a = a ∙ ap (admitted p n) (span_of f)

-- an admitted record lies within the bytes
pub record Fitted (f : Flat) (p : Place) (n : ℕ) : Type 0 where
  pub within : inside f.span p ≡ true
  pub ends : offset f.span p + n ≤ f.bytes.len

pub fitted : (f : Flat) (p : Place) (n : ℕ) → Ok tt ≡ admitted p n f.span → Fitted f p n
fitted f p n a =
    let is = admitted_parts p n f.span (sym a) in
    let ends = record_fits f.bytes.len f.span p f.spans is.1 in
    record { within = is.1; ends = omega (arith, is.0) }

-- the bytes after a record is written over its place
pub put_bytes : (f : Flat) (p : Place) (r xs ys : List ℕ) (at k : ℕ) → Ok tt ≡ admitted p (length r) f.span → at ≡ offset f.span p → k ≡ length r → xs ≡ vec_items f.bytes → ys ≡ r → vec_items (with_items f.bytes (put_mid at k xs ys)) ≡ overwritten (vec_items f.bytes) (offset f.span p) r
put_bytes f p r xs ys at k a ea ek ex ey =
    let bytes = vec_items f.bytes in
    let over : put_mid at k xs ys ≡ overwritten bytes (offset f.span p) r = part_overwritten xs ys r at k ek ey ∙ ap (λ z. overwritten z at r) ex ∙ ap (λ n. overwritten bytes n r) ea in
    let long : length (put_mid at k xs ys) ≡ f.bytes.len = ap length over ∙ length-overwritten bytes r (offset f.span p) (omega (arith, (fitted f p (length r) a).ends, f.bytes.ok.0)) ∙ sym f.bytes.ok.0 in
    with_items_is f.bytes (put_mid at k xs ys) long ∙ over

-- so an accepted put keeps the store's word
pub put_told : (f : Flat) (p : Place) (r new : List ℕ) → Ok tt ≡ admitted p (length r) f.span → new ≡ overwritten (vec_items f.bytes) (offset f.span p) r → Kept (flat_of f) (asks_put p r) (Ok tt) (flat_meaning new)
put_told f p r new a e =
    let bytes = vec_items f.bytes in
    let same : new ≡ overwritten bytes (offset (flat_span (length bytes)) p) r = e ∙ ap (λ c. overwritten bytes (offset c p) r) (span_of f) in
    subst (λ z. Kept (flat_of f) (asks_put p r) (Ok tt) (flat_meaning z)) (sym same) (put_kept bytes r p (admits f p (length r) a))
