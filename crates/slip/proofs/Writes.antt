-- The writing of a slip, part by part.
use Rattle.std.proofs.Common.{◌≡◌, ℕ, ◌+◌, ◌<◌, ◌≤◌, ◌∷◌, ◌++◌, length, take, drop, is_ok, Ok, sym, refl, ap, ◌∙◌, ap₂, arith, length-append}
use Rattle.std.proofs.lemmas.List.{take_at, append_assoc}
use Rattle.std.proofs.lemmas.Slice.{drop-append-drop}
use Rattle.std.proofs.lemmas.Bool.{eq-eqb, lt-ltb, le-leb, cond-true}
use Rattle.fields.specs.Fields.{bytes2}
use Rattle.hash.specs.Hash.{Bytes}
use Rattle.slip.specs.Slip.{Slipped, path_bytes, slip_length, slip_bytes, slip_head, slip_write_answer, slip_written}

-- src is written just after front, which has n bytes, and then there are m
next : (out was now front src : Bytes) (n m : ℕ) → length front ≡ n → n + length src ≡ m → was ≡ front ++ drop n out → now ≡ take n was ++ (src ++ drop (n + length src) was) → now ≡ (front ++ src) ++ drop m out
next out was now front src n m l s e f =
    let far : n ≤ m = omega arith in
    let a = ap (take n) e ∙ take_at front (drop n out) n l in
    let b = ap (drop m) e ∙ drop-append-drop n out front m far l in
    let c = append_assoc front src (drop m out) in
    cc

module _ (x : Slipped) (out : Bytes)
    (block : length x.block ≡ 1024) (number : x.number < x.count) (path : length x.path ≡ path_bytes x.number x.count)
    (room : 1048 + length x.path ≤ length out) where
  pub answered : Ok (1048 + length x.path) ≡ slip_write_answer x out
  answered =
      rw (eq-eqb (length x.block) 1024 block, lt-ltb x.number x.count number, eq-eqb (length x.path) (path_bytes x.number x.count) path, le-leb (slip_length x.number x.count) (length out) (omega arith))
      (ap (λ (n : ℕ). Ok (1048 + n)) path)

  -- the parts are the slip
  whole : (head tag : Bytes) → head ≡ slip_head x.kind x.count x.number → tag ≡ 6 ∷ bytes2 (length x.path) → ((head ++ x.block) ++ tag) ++ x.path ≡ slip_bytes x
  whole head tag h t =
      ap₂ (λ (u v : Bytes). ((u ++ x.block) ++ v) ++ x.path) h t
      ∙ append_assoc (slip_head x.kind x.count x.number ++ x.block) (6 ∷ bytes2 (length x.path)) x.path
      ∙ append_assoc (slip_head x.kind x.count x.number) x.block (6 ∷ (bytes2 (length x.path) ++ x.path))

  pub wrote : (a b c d head tag : Bytes) → head ≡ slip_head x.kind x.count x.number → tag ≡ 6 ∷ bytes2 (length x.path) →
      a ≡ take 0 out ++ (head ++ drop (0 + length head) out) → b ≡ take 21 a ++ (x.block ++ drop (21 + length x.block) a) →
      c ≡ take 1045 b ++ (tag ++ drop (1045 + length tag) b) → d ≡ take 1048 c ++ (x.path ++ drop (1048 + length x.path) c) →
      d ≡ slip_written x out
  wrote a b c d head tag h t e f g i =
      let long_head : length head ≡ 21 = ap length h in
      let long_tag : length tag ≡ 3 = ap length t in
      let start : 0 + length head ≡ 21 = omega arith in
      let first : a ≡ head ++ drop 21 out = e ∙ ap (λ (n : ℕ). head ++ drop n out) start in
      let second = next out a b head x.block 21 1045 long_head (omega arith) first f in
      let third = next out b c (head ++ x.block) tag 1045 1048 (simp length-append (omega arith)) (omega arith) second g in
      let last = next out c d ((head ++ x.block) ++ tag) x.path 1048 (1048 + length x.path) (simp length-append (omega arith)) refl third i in
      let written = ap is_ok (sym answered) in
      last ∙ ap₂ (λ (w : Bytes) (n : ℕ). w ++ drop (1048 + n) out) (whole head tag h t) path ∙ sym (cond-true (is_ok (slip_write_answer x out)) (slip_bytes x ++ drop (slip_length x.number x.count) out) out written)
