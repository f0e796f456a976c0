-- The turns read off the digits of the place and of the last place, the lowest first.
use Rattle.std.proofs.Common.{◌≡◌, ℕ, zero, suc, ◌+◌, ◌-◌, ◌/◌, ◌%◌, ◌^◌, ◌<◌, ◌≤◌, true, false, eqb, ltb, List, [], ◌∷◌, ◌++◌, sym, refl, ap, ◌∙◌, ap₂, ⊎_elim, append_assoc, append-nil, arith, pow_pos}
use native.Mathlib.Nat.{div-eq_of_lt, div-eq_of_lt-le, div-div-eq-div-mul, pow-succ'}
use Rattle.std.proofs.lemmas.Bool.{lt-ltb, le-ltb, cases_lt, cases_eq}
use Rattle.tree.specs.Tree.{Turn, left, right, turns_at}
use Rattle.tree.proofs.Paths.{turns_low, turns_left, turns_right}

-- the turn at the lowest level, if there is one: m is the last block's number
unfoldable pub turn : ℕ → ℕ → List Turn
turn i m = elim (eqb (i % 2) 1) [ true ↦ right ∷ [] | false ↦ elim (ltb i m) [ true ↦ left ∷ [] | false ↦ [] ] ]

-- the turns by the binary digits, the lowest first
unfoldable pub turns_up : ℕ → ℕ → ℕ → List Turn
turns_up zero i m = []
turns_up (suc L) i m = turn i m ++ turns_up L (i / 2) (m / 2)

pub turn_odd : (i m : ℕ) → i % 2 ≡ 1 → turn i m ≡ right ∷ []
unfolding turn
turn_odd i m h = rw (h, turn)

pub turn_even : (i m : ℕ) → i % 2 ≡ 0 → i < m → turn i m ≡ left ∷ []
unfolding turn
turn_even i m h l = rw (h, turn, lt-ltb i m l)

pub turn_last : (i m : ℕ) → i % 2 ≡ 0 → m ≤ i → turn i m ≡ []
unfolding turn
turn_last i m h l = rw (h, turn, le-ltb i m l)

-- the same turn at places of one parity, if even ones have the same order
turn_same : (i m j n : ℕ) → i % 2 ≡ j % 2 → (i % 2 ≡ 0 → i < m → j < n) → (i % 2 ≡ 0 → m ≤ i → n ≤ j) → turn i m ≡ turn j n
turn_same i m j n e f g =
    ⊎_elim
    (λ (z : i % 2 ≡ 0).
    ⊎_elim (λ (l : i < m). turn_even i m z l ∙ sym (turn_even j n (sym e ∙ z) (f z l))) (λ (l : m ≤ i). turn_last i m z l ∙ sym (turn_last j n (sym e ∙ z) (g z l))) (cases_lt i m))
    (λ (z : i % 2 ≡ 0 → ⊥). turn_odd i m (omega arith) ∙ sym (turn_odd j n (omega arith)))
    (cases_eq (i % 2) 0)

pub halved : (i L : ℕ) → i / 2 / 2 ^ L ≡ i / 2 ^ suc L
halved i L = div-div-eq-div-mul i 2 (2 ^ L) ∙ ap (λ (p : ℕ). i / p) (sym (pow-succ' 2 L))

-- one more digit at the end
up_push : (L i m : ℕ) → turns_up (suc L) i m ≡ turns_up L i m ++ turn (i / 2 ^ L) (m / 2 ^ L)
unfolding turns_up
up_push zero i m =
    let a : i / 1 ≡ i = omega arith in
    let b : m / 1 ≡ m = omega arith in
    append-nil (turn i m) ∙ ap₂ turn (sym a) (sym b)
up_push (suc L) i m =
    ap (λ (r : List Turn). turn i m ++ r) (up_push L (i / 2) (m / 2) ∙ ap₂ (λ (x y : ℕ). turns_up L (i / 2) (m / 2) ++ turn x y) (halved i L) (halved m L))
    ∙ sym (append_assoc (turn i m) (turns_up L (i / 2) (m / 2)) (turn (i / 2 ^ suc L) (m / 2 ^ suc L)))

-- in a whole left part only the place counts
up_left : (L i m : ℕ) → i < 2 ^ L → 2 ^ L ≤ m → turns_up L i m ≡ turns_up L i (2 ^ L - 1)
unfolding turns_up
up_left zero i m l h = refl
up_left (suc L) i m l h =
    let e : 2 ^ L - 1 ≡ (2 ^ suc L - 1) / 2 = omega (arith, pow_pos L) in
    ap₂ (λ (x y : List Turn). x ++ y) (turn_same i m i (2 ^ suc L - 1) refl (λ z k. omega arith) (λ z k. omega arith))
    (up_left L (i / 2) (m / 2) (omega arith) (omega arith) ∙ ap (λ (k : ℕ). turns_up L (i / 2) k) e)

-- in a right part the digit above does not
up_right : (L i m : ℕ) → turns_up L (2 ^ L + i) (2 ^ L + m) ≡ turns_up L i m
unfolding turns_up
up_right zero i m = refl
up_right (suc L) i m =
    let a : (2 ^ suc L + i) / 2 ≡ 2 ^ L + i / 2 = omega arith in
    let b : (2 ^ suc L + m) / 2 ≡ 2 ^ L + m / 2 = omega arith in
    ap₂ (λ (x y : List Turn). x ++ y) (turn_same (2 ^ suc L + i) (2 ^ suc L + m) i m (omega arith) (λ z k. omega arith) (λ z k. omega arith))
    (ap₂ (turns_up L) a b ∙ up_right L (i / 2) (m / 2))

nothing : (i n : ℕ) → turns_up 0 i n ≡ turns_at 0 i (suc n)
unfolding turns_up turns_at
nothing i n = refl

one_above : (m L : ℕ) → 2 ^ L ≤ m → m < 2 ^ suc L → m / 2 ^ L ≡ 1
one_above m L h k = div-eq_of_lt-le (2 ^ L) (omega arith) (omega arith)

pub turns_up_lem : (L i m : ℕ) → i ≤ m → m < 2 ^ L → turns_up L i m ≡ turns_at L i (suc m)
turns_up_lem zero i m h k = nothing i m
turns_up_lem (suc L) i m h k =
    up_push L i m
    ∙ ⊎_elim
    (λ (a : m < 2 ^ L).
    rw (div-eq_of_lt {n = i} {m = 2 ^ L} (omega arith), div-eq_of_lt a, turn_last 0 0 refl (omega arith), append-nil, turns_low L i (suc m) a) (turns_up_lem L i m h a))
    (λ (a : 2 ^ L ≤ m).
    ⊎_elim
    (λ (b : i < 2 ^ L).
    let e : suc (2 ^ L - 1) ≡ 2 ^ L = omega (arith, pow_pos L) in
    rw (
      div-eq_of_lt b,
      one_above m L a k,
      turn_even 0 1 refl (omega arith),
      up_left L i m b a,
      turns_left L i (suc m) b (omega arith),
      turns_up_lem L i (2 ^ L - 1) (omega arith) (omega (arith, pow_pos L)),
      e,
    ))
    (λ (b : 2 ^ L ≤ i).
    let x : i ≡ 2 ^ L + (i - 2 ^ L) = omega arith in
    let y : m ≡ 2 ^ L + (m - 2 ^ L) = omega arith in
    let z : suc (m - 2 ^ L) ≡ suc m - 2 ^ L = omega arith in
    rw (
      one_above i L b (omega arith),
      one_above m L a k,
      turn_odd 1 1 refl,
      turns_right L i (suc m) b (omega arith),
      ← z,
      ← (turns_up_lem L (i - 2 ^ L) (m - 2 ^ L) (omega arith) (omega arith)),
    )
    (ap (λ (r : List Turn). r ++ right ∷ []) (ap₂ (turns_up L) x y ∙ up_right L (i - 2 ^ L) (m - 2 ^ L))))
    (cases_lt i (2 ^ L)))
    (cases_lt m (2 ^ L))
