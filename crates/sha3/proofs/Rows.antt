-- A state in rows, and the steps on it.
-- Assumes nothing.
use Rattle.std.proofs.Common.{◌≡◌, ℕ, zero, suc, ◌+◌, ◌*◌, ◌/◌, ◌<◌, ◌≤◌, List, [], ◌∷◌, ◌++◌, map, length, get_or, take, drop, set, sym, refl, ap, ◌∙◌, arith, lit<}
use Rattle.std.proofs.lemmas.List.{length-drop, length-take-le, get_or-take, get_or-drop}
use Rattle.std.specs.List.{range_with_len, flat_map}
use Rattle.std.specs.Simd.{first_chunks}
use Rattle.std.proofs.lemmas.List.FromFn.{fill_by_all}
use Rattle.sha3.specs.Keccak.{state}
use Rattle.sha3.specs.Rows.{lanes, IsSquare}
use Rattle.sha3.proofs.Lists.{chunk_at}

-- the lane x of the row y
abbrev pub place : List (List ℕ) → ℕ → ℕ → ℕ
place R x y = get_or (get_or R y []) x 0

abbrev pub row : (ℕ → ℕ → ℕ) → ℕ → List ℕ
row f y = map (λ x. f x y) (range_with_len 0 5)

-- five rows
module _ (f : ℕ → ℕ → ℕ) (a b c d e : List ℕ) (p : a ≡ row f 0) (q : b ≡ row f 1) (r : c ≡ row f 2) (s : d ≡ row f 3) (t : e ≡ row f 4) where
  pub each : {X : Type 0} (F : List ℕ → List ℕ → List ℕ → List ℕ → List ℕ → X) → F a b c d e ≡ F (row f 0) (row f 1) (row f 2) (row f 3) (row f 4)
  each F =
      ap (λ (l : List ℕ). F l b c d e) p
      ∙ ap (λ (l : List ℕ). F (row f 0) l c d e) q
      ∙ ap (λ (l : List ℕ). F (row f 0) (row f 1) l d e) r
      ∙ ap (λ (l : List ℕ). F (row f 0) (row f 1) (row f 2) l e) s
      ∙ ap (λ (l : List ℕ). F (row f 0) (row f 1) (row f 2) (row f 3) l) t

  pub stacked : lanes (a ∷ b ∷ c ∷ d ∷ e ∷ []) ≡ state f
  stacked = each (λ a b c d e. lanes (a ∷ b ∷ c ∷ d ∷ e ∷ []))

-- the five elements of a list
pub five : {X : Type 0} (xs : List X) (d : X) → length xs ≡ 5 → xs ≡ map (λ i. get_or xs i d) (range_with_len 0 5)
five xs d l = fill_by_all (λ i. get_or xs i d) xs 5 d l (λ k h. refl)

pub flat : (R : List (List ℕ)) → IsSquare R → flat_map (λ r. r) R ≡ lanes R
flat R s =
    let at : (y : ℕ) → y < 5 → get_or R y [] ≡ row (place R) y = λ y h. five (get_or R y []) 0 (s.1 y h) in
    ap (flat_map (λ r. r)) (five R [] s.0)
    ∙ each (place R) _ _ _ _ _ (at 0 (lit< tt)) (at 1 (lit< tt)) (at 2 (lit< tt)) (at 3 (lit< tt)) (at 4 (lit< tt)) (λ a b c d e. a ++ (b ++ (c ++ (d ++ (e ++ [])))))

-- five rows of five are a square
rows_long : (a b c d e : List ℕ) → length a ≡ 5 → length b ≡ 5 → length c ≡ 5 → length d ≡ 5 → length e ≡ 5 → (y : ℕ) → y < 5 → length (get_or (a ∷ b ∷ c ∷ d ∷ e ∷ []) y []) ≡ 5
rows_long a b c d e p q r s t zero h = p
rows_long a b c d e p q r s t (suc zero) h = q
rows_long a b c d e p q r s t (suc (suc zero)) h = r
rows_long a b c d e p q r s t (suc (suc (suc zero))) h = s
rows_long a b c d e p q r s t (suc (suc (suc (suc zero)))) h = t
rows_long a b c d e p q r s t (suc (suc (suc (suc (suc y))))) h = let z : ⊥ = omega arith in absurd z

pub squared : (a b c d e : List ℕ) → length a ≡ 5 → length b ≡ 5 → length c ≡ 5 → length d ≡ 5 → length e ≡ 5 → IsSquare (a ∷ b ∷ c ∷ d ∷ e ∷ [])
squared a b c d e p q r s t = (refl, rows_long a b c d e p q r s t)

-- the lanes A cut into rows
abbrev placed : List ℕ → ℕ → ℕ → ℕ
placed A x y = get_or A (x + 5 * y) 0

cut : (A : List ℕ) (y : ℕ) → length A ≡ 25 → y < 5 → take 5 (drop (y * 5) A) ≡ row (placed A) y
cut A y l h =
    let d = length-drop (y * 5) A in
    let le : 5 ≤ length (drop (y * 5) A) = omega arith in
    fill_by_all (λ x. placed A x y) (take 5 (drop (y * 5) A)) 5 0 (length-take-le 5 (drop (y * 5) A) le)
    (λ x k. let e : y * 5 + x ≡ x + 5 * y = omega arith in get_or-take 5 (drop (y * 5) A) x 0 k ∙ get_or-drop (y * 5) A x 0 ∙ ap (λ (i : ℕ). get_or A i 0) e)

-- the lanes A as chunks of five
module _ (A : List ℕ) (R : List (List ℕ)) (l : length A ≡ 25) (e : R ≡ first_chunks 5 (length A / 5) A) where
  chunk : (y : ℕ) → y < 5 → get_or R y [] ≡ row (placed A) y
  chunk y h =
      let k : y < length A / 5 = omega arith in
      ap (λ (R : List (List ℕ)). get_or R y []) e ∙ chunk_at 5 (length A / 5) y A [] k ∙ cut A y l h

  abbrev pub five_of : List (List ℕ)
  five_of = get_or R 0 [] ∷ get_or R 1 [] ∷ get_or R 2 [] ∷ get_or R 3 [] ∷ get_or R 4 [] ∷ []

  pub square_of_chunks : IsSquare five_of
  square_of_chunks =
      squared _ _ _ _ _ (ap length (chunk 0 (lit< tt))) (ap length (chunk 1 (lit< tt))) (ap length (chunk 2 (lit< tt))) (ap length (chunk 3 (lit< tt))) (ap length (chunk 4 (lit< tt)))

  pub lanes_of_chunks : lanes five_of ≡ A
  lanes_of_chunks =
      stacked (placed A) _ _ _ _ _ (chunk 0 (lit< tt)) (chunk 1 (lit< tt)) (chunk 2 (lit< tt)) (chunk 3 (lit< tt)) (chunk 4 (lit< tt))
      ∙ sym (fill_by_all (λ i. get_or A i 0) A 25 0 l (λ k h. refl))

-- another lane in the place of Lane(0, 0)
abbrev pub first_set : List (List ℕ) → ℕ → List (List ℕ)
first_set R v = set R 0 (set (get_or R 0 []) 0 v)

no_row : (n : ℕ) → n ≡ 0 → n ≡ 5 → ⊥
no_row n z f = omega arith

pub lanes-first_set : (R : List (List ℕ)) (v : ℕ) → IsSquare R → lanes (first_set R v) ≡ set (lanes R) 0 v
lanes-first_set [] v s = absurd (no_row 0 refl s.0)
lanes-first_set ([] ∷ R) v s = absurd (no_row 0 refl (s.1 0 (lit< tt)))
lanes-first_set ((x ∷ r) ∷ R) v s = refl

rows_set : (x v : ℕ) (r : List ℕ) (R : List (List ℕ)) → ((y : ℕ) → y < 5 → length (get_or ((x ∷ r) ∷ R) y []) ≡ 5) → (y : ℕ) → y < 5 → length (get_or ((v ∷ r) ∷ R) y []) ≡ 5
rows_set x v r R f zero h = f zero h
rows_set x v r R f (suc y) h = f (suc y) h

pub square-first_set : (R : List (List ℕ)) (v : ℕ) → IsSquare R → IsSquare (first_set R v)
square-first_set [] v s = absurd (no_row 0 refl s.0)
square-first_set ([] ∷ R) v s = absurd (no_row 0 refl (s.1 0 (lit< tt)))
square-first_set ((x ∷ r) ∷ R) v s = (s.0, rows_set x v r R s.1)
