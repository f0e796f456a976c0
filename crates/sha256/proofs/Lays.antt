-- What stands at each place after a piece is laid over it.
-- Assumes nothing.
use Rattle.std.proofs.Common.{◌≡◌, ℕ, ◌+◌, ◌-◌, ◌*◌, ◌<◌, ◌≤◌, min, max, List, [], ◌∷◌, ◌++◌, length, get_or, take, drop, replicate, sym, refl, ap, subst, ◌∙◌, inl, inr, arith, le-leb}
use borrow.Author.Tests.{lt-leb}
use borrow.Rule.Slice.PartMut.{put_mid}
use Rattle.std.proofs.lemmas.List.{places, get_or_append_left, get_or-append_right, get_or_default, get_or_past, get_or-replicate, length-replicate}
use Rattle.std.proofs.lemmas.List.Edits.{get_or-between, length-between}
use Rattle.std.proofs.lemmas.Bool.{cases_lt}
use Rattle.std.specs.List.{between}
use Rattle.sha256.specs.Laid.{laid}
use Rattle.sha256.specs.Padding.{bytes64, pad, zeros}
use Rattle.sha256.proofs.Pads.{body, filled, length-body, length-pad, pad_is}

module _ (piece : List ℕ) (a p old : ℕ) where
  pub laid_before : p < a → laid piece a p old ≡ old
  laid_before h = rw (lt-leb a p h) refl

  pub laid_in : a ≤ p → p < a + length piece → laid piece a p old ≡ get_or piece (p - a) 0
  laid_in h l = rw (le-leb a p h) (get_or_default piece (p - a) old 0 (omega arith))

  pub laid_after : a + length piece ≤ p → laid piece a p old ≡ old
  laid_after h = let le : a ≤ p = omega arith in rw (le-leb a p le) (get_or_past piece (p - a) old (omega arith))

module _ (a n : ℕ) (xs ys : List ℕ) (long : length ys ≡ n) (fits : a + n ≤ length xs) (k : ℕ) where
  mid_before : k < a → get_or (put_mid a n xs ys) k 0 ≡ get_or xs k 0
  mid_before h = grind (arith, places)

  mid_in : a ≤ k → k < a + n → get_or (put_mid a n xs ys) k 0 ≡ get_or ys (k - a) 0
  mid_in h l = grind (arith, places)

  mid_after : a + n ≤ k → get_or (put_mid a n xs ys) k 0 ≡ get_or xs k 0
  mid_after h = grind (arith, places)

-- a piece that meets the 64 bytes from start on, and one that does not
module _ (xs piece : List ℕ) (start a : ℕ) (k : ℕ) (h : k < 64) where
  pub lay_some : (ys : List ℕ) (from to : ℕ) → length xs ≡ 64 → from ≡ max start a → to ≡ min (start + 64) (a + length piece)
      → from < to → ys ≡ between (from - a) (to - a) piece
      → get_or (put_mid (from - start) (to - start - (from - start)) xs ys) k 0 ≡ laid piece a (start + k) (get_or xs k 0)
  lay_some ys from to long f t lt e =
      let n : length ys ≡ to - start - (from - start) = ap length e ∙ length-between piece (from - a) (to - a) (omega arith) ∙ omega arith in
      let fits : from - start + (to - start - (from - start)) ≤ length xs = omega arith in
      let old : ℕ = get_or xs k 0 in
      elim (cases_lt (start + k) from) [
        | inl l ↦
            mid_before (from - start) (to - start - (from - start)) xs ys n fits k (omega arith)
            ∙ sym (laid_before piece a (start + k) old (omega arith))
        | inr g ↦
            elim (cases_lt (start + k) to) [
              | inl l ↦
                  mid_in (from - start) (to - start - (from - start)) xs ys n fits k (omega arith) (omega arith)
                  ∙ ap (λ (l : List ℕ). get_or l (k - (from - start)) 0) e
                  ∙ get_or-between piece (from - a) (to - a) (k - (from - start)) 0 (omega arith)
                  ∙ ap (λ (i : ℕ). get_or piece i 0) (omega arith)
                  ∙ sym (laid_in piece a (start + k) old (omega arith) (omega arith))
              | inr m ↦
                  mid_after (from - start) (to - start - (from - start)) xs ys n fits k (omega arith)
                  ∙ sym (laid_after piece a (start + k) old (omega arith))
            ]
      ]

-- ---- pieces laid one after the other

-- a piece laid where a text ends is joined to it
joins : (xs piece : List ℕ) (p : ℕ) → laid piece (length xs) p (get_or xs p 0) ≡ get_or (xs ++ piece) p 0
joins xs piece p =
    elim (cases_lt p (length xs)) [
      | inl l ↦ laid_before piece (length xs) p (get_or xs p 0) l ∙ sym (get_or_append_left xs piece 0 p l)
      | inr g ↦
          ap (laid piece (length xs) p) (get_or_past xs p 0 g)
          ∙ rw (le-leb (length xs) p g) (sym (get_or-append_right xs piece (length xs) p 0 refl g))
    ]

-- the bytes of b are those from start on of xs, and zeros past its end
abbrev Holds : List ℕ → ℕ → List ℕ → Type 0
Holds xs start b = (k : ℕ) → k < 64 → get_or b k 0 ≡ get_or xs (start + k) 0

-- a block is one of 64 bytes over which piece is laid at a
abbrev Over : List ℕ → ℕ → ℕ → List ℕ → List ℕ → Type 0
Over piece a start old new = (k : ℕ) → k < 64 → get_or new k 0 ≡ laid piece a (start + k) (get_or old k 0)

holds_more : (xs piece : List ℕ) (start a : ℕ) (b b' : List ℕ) → a ≡ length xs → Holds xs start b → Over piece a start b b' → Holds (xs ++ piece) start b'
holds_more xs piece start a b b' e r o k h =
    let p : ℕ = start + k in
    o k h ∙ ap (laid piece a p) (r k h) ∙ ap (λ (n : ℕ). laid piece n p (get_or xs p 0)) e ∙ joins xs piece p

-- zeros are there already
zeros_past : (z i : ℕ) → get_or {A = ℕ} (replicate z 0) i 0 ≡ 0
zeros_past z i =
    elim (cases_lt i z) [
      | inl l ↦ get_or-replicate z i 0 0 l
      | inr g ↦ get_or_past (replicate z 0) i 0 (simp length-replicate g)
    ]

holds_zeros : (xs : List ℕ) (start z : ℕ) (b : List ℕ) → Holds xs start b → Holds (xs ++ replicate z 0) start b
holds_zeros xs start z b r k h =
    let p : ℕ = start + k in
    r k h
    ∙ elim (cases_lt p (length xs)) [
      | inl l ↦ sym (get_or_append_left xs (replicate z 0) 0 p l)
      | inr g ↦
          get_or_past xs p 0 g
          ∙ sym (get_or-append_right xs (replicate z 0) (length xs) p 0 refl g ∙ zeros_past z (p - length xs))
    ]

pub laid_block : (first second m : List ℕ) (start n e : ℕ) (bits b₁ b₂ b₃ b₄ : List ℕ) → first ++ second ≡ m
    → start + 64 ≤ length (pad m) → n ≡ length m → e ≡ length (pad m) → bits ≡ bytes64 (8 * n) → length b₄ ≡ 64
    → Over first 0 start (replicate 64 0) b₁ → Over second (length first) start b₁ b₂ → Over (0x80 ∷ []) n start b₂ b₃ → Over bits (e - 8) start b₃ b₄
    → b₄ ≡ take 64 (drop start (pad m))
laid_block first second m start n e bits b₁ b₂ b₃ b₄ is fits n-is e-is bits_is long o₁ o₂ o₃ o₄ =
    let r₁ : Holds first start b₁ = holds_more [] first start 0 (replicate 64 0) b₁ refl (λ k h. zeros_past 64 k) o₁ in
    let r₂ : Holds m start b₂ = subst (λ l. Holds l start b₂) is (holds_more first second start (length first) b₁ b₂ refl r₁ o₂) in
    let r₃ : Holds (m ++ 0x80 ∷ []) start b₃ = holds_more m (0x80 ∷ []) start n b₂ b₃ n-is r₂ o₃ in
    let r₄ : Holds (body m) start b₃ = holds_zeros (m ++ 0x80 ∷ []) start (zeros (length m)) b₃ r₃ in
    let r₅ : Holds (body m ++ bits) start b₄ = holds_more (body m) bits start (e - 8) b₃ b₄ (omega (arith, length-pad m, length-body m)) r₄ o₄ in
    let p : pad m ≡ body m ++ bits = pad_is m ∙ ap (λ (k : ℕ). body m ++ bytes64 (8 * k)) (sym n-is) ∙ ap (λ (l : List ℕ). body m ++ l) (sym bits_is) in
    filled (pad m) b₄ start fits long (λ k h. r₅ k h ∙ ap (λ (l : List ℕ). get_or l (start + k) 0) (sym p))
