-- Bytes with a part written over.
-- Assumes nothing.
use Rattle.std.proofs.Common.{◌≡◌, ℕ, ◌+◌, ◌-◌, ◌≤◌, ◌⊎◌, List, ◌++◌, length, take, drop, sym, ap, ◌∙◌, inl, inr, arith, length-append, length-drop, length-take}
use borrow.Rule.Slice.PartMut.{put_mid}
use Rattle.std.proofs.lemmas.List.{append_assoc, drop_at, drop-drop, drop-take, take_at}
use Rattle.std.proofs.lemmas.Slice.{take-put_mid_below, drop-put_mid, between-put_mid}
use Rattle.store.specs.Bytes.{overwritten}

-- what a write to a part leaves
pub overwritten_is : (bytes r : List ℕ) (at : ℕ) → put_mid at (length r) bytes r ≡ overwritten bytes at r
overwritten_is bytes r at = ap (λ rest. take at bytes ++ (r ++ rest)) (drop-drop (length r) at bytes)

-- the bytes are as many as before
pub length-overwritten : (bytes r : List ℕ) (at : ℕ) → at + length r ≤ length bytes → length (overwritten bytes at r) ≡ length bytes
length-overwritten bytes r at fits = simp (length-append, length-take, length-drop) (omega arith)

-- the part is what was written
pub overwritten_here : (bytes r : List ℕ) (at : ℕ) → at + length r ≤ length bytes → take (length r) (drop at (overwritten bytes at r)) ≡ r
overwritten_here bytes r at fits =
    let same : at + length r - at ≡ length r = omega arith in
    ap (λ n. take n (drop at (overwritten bytes at r))) (sym same)
    ∙ ap (λ xs. take (at + length r - at) (drop at xs)) (sym (overwritten_is bytes r at))
    ∙ between-put_mid at (length r) bytes r (at + length r) (omega arith) (omega arith)

-- a part that lies before it, or after it, is as it was
pub overwritten_apart : (bytes r : List ℕ) (at from n : ℕ) → at + length r ≤ length bytes → (at + length r ≤ from) ⊎ (from + n ≤ at) → take n (drop from (overwritten bytes at r)) ≡ take n (drop from bytes)
overwritten_apart bytes r at from n fits side = ap (λ xs. take n (drop from xs)) (sym (overwritten_is bytes r at)) ∙ go side
  where
    go : (at + length r ≤ from) ⊎ (from + n ≤ at) → take n (drop from (put_mid at (length r) bytes r)) ≡ take n (drop from bytes)
    go (inl after) = ap (take n) (drop-put_mid at (length r) bytes r from after (omega arith) (omega arith))
    go (inr before) = sym (drop-take from n (put_mid at (length r) bytes r)) ∙ ap (drop from) (take-put_mid_below at (length r) bytes r (from + n) before (omega arith)) ∙ drop-take from n bytes

-- so is what a copy into a part leaves
pub part_overwritten : (bytes ys r : List ℕ) (at k : ℕ) → k ≡ length r → ys ≡ r → put_mid at k bytes ys ≡ overwritten bytes at r
part_overwritten bytes ys r at k e f = ap (λ n. put_mid at n bytes ys) e ∙ ap (put_mid at (length r) bytes) f ∙ overwritten_is bytes r at

-- two writes, one behind the other, are one
pub overwritten_twice : (bytes r s : List ℕ) (at next : ℕ) → next ≡ at + length r → next + length s ≤ length bytes → overwritten (overwritten bytes at r) next s ≡ overwritten bytes at (r ++ s)
overwritten_twice bytes r s at next e fits =
    let front = take at bytes ++ r in
    let rest = drop (at + length r) bytes in
    let long : length front ≡ next = length-append (take at bytes) r ∙ omega (arith, length-take at bytes) in
    let whole : overwritten bytes at r ≡ front ++ rest = sym (append_assoc (take at bytes) r rest) in
    let before : take next (overwritten bytes at r) ≡ front = ap (take next) whole ∙ take_at front rest next long in
    let behind : drop next (overwritten bytes at r) ≡ rest = ap (drop next) whole ∙ drop_at front rest next long in
    let far : at + length r + length s ≡ at + length (r ++ s) = omega (arith, length-append r s) in
    let after : drop (next + length s) (overwritten bytes at r) ≡ drop (at + length (r ++ s)) bytes = sym (drop-drop (length s) next (overwritten bytes at r)) ∙ ap (drop (length s)) behind ∙ drop-drop (length s) (at + length r) bytes ∙ ap (λ n. drop n bytes) far in
    ap (λ z. z ++ (s ++ drop (next + length s) (overwritten bytes at r))) before
    ∙ ap (λ z. front ++ (s ++ z)) after
    ∙ append_assoc (take at bytes) r (s ++ drop (at + length (r ++ s)) bytes)
    ∙ ap (λ z. take at bytes ++ z) (sym (append_assoc r s (drop (at + length (r ++ s)) bytes)))
