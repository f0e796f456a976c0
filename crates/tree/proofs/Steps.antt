-- The tree's equations as the code meets them: at the largest power of two below the count, and at one more level.
use Rattle.std.proofs.Common.{◌≡◌, ℕ, zero, suc, ◌+◌, ◌-◌, ◌/◌, ◌%◌, ◌^◌, ◌<◌, ◌≤◌, List, [], ◌∷◌, ◌++◌, length, get_or, take, drop, set, sym, refl, ap, ◌∙◌, ⊎_elim, append_assoc, add-one, arith, drop-cons, pow_pos}
use Rattle.std.proofs.lemmas.List.{set_at}
use Rattle.std.proofs.lemmas.Bool.{le-leb, lt-leb, lt-ltb, le-ltb, cases_lt}
use Rattle.hash.specs.Hash.{Bytes}
use Rattle.tree.specs.Tree.{Split, Turn, node, leaf, turns_at, turns, path_length_at, path_length, root_at, root, path_at, path, root_from}
use Rattle.tree.proofs.Digits.{turn, turns_up, turns_up_lem, turn_odd, turn_even, turn_last}
use Rattle.tree.proofs.Lengths.{length_is, length_rfc}
use Rattle.tree.proofs.Level.{own_level, below_pow}
use Rattle.tree.proofs.Paths.{turns_low, path_is, path_rfc}
use Rattle.tree.proofs.Roots.{root_rfc}
use Rattle.tree.proofs.Theorems.{path_length_lem}

-- lengths of paths
bound : (L i n : ℕ) → path_length_at L i n ≤ L
unfolding path_length_at
bound zero i n = omega arith
bound (suc L) i n =
    ⊎_elim
    (λ (m : 2 ^ L < n).
    ⊎_elim
    (λ (l : i < 2 ^ L). rw (lt-leb n (2 ^ L) m, lt-ltb i (2 ^ L) l, path_length_at) (omega (arith, bound L i (2 ^ L))))
    (λ (r : 2 ^ L ≤ i). rw (lt-leb n (2 ^ L) m, le-ltb i (2 ^ L) r, path_length_at) (omega (arith, bound L (i - 2 ^ L) (n - 2 ^ L))))
    (cases_lt i (2 ^ L)))
    (λ (m : n ≤ 2 ^ L). rw (le-leb n (2 ^ L) m, path_length_at) (omega (arith, bound L i n)))
    (cases_lt (2 ^ L) n)

pub length_bound : (L i n : ℕ) → n ≤ 2 ^ L → path_length i n ≤ L
length_bound L i n h = rw (length_is L i n h) (bound L i n)

pub length_none : (i n : ℕ) → n < 2 → path_length i n ≡ 0
length_none i n h = let none : path_length i n ≤ 0 = length_bound 0 i n (omega arith) in omega arith

module _ (k n : ℕ) (s : Split k n) where
  pub split_within : (0 < k) × (k < n)
  split_within = rw s.power (pow_pos s.level, s.splits.more)

  pub length_left : (i : ℕ) → i < k → path_length i n ≡ suc (path_length i k)
  length_left i l = rw s.power (length_rfc.on_left s.level i n s.splits (rw s.power at l))

  pub length_right : (i : ℕ) → k ≤ i → path_length i n ≡ suc (path_length (i - k) (n - k))
  length_right i r = rw s.power (length_rfc.on_right s.level i n s.splits (rw s.power at r))

module _ (d : Bytes → Bytes) (k : ℕ) (bs : List Bytes) (s : Split k (length bs)) where
  pub root_split : root d bs ≡ d (node (root d (take k bs)) (root d (drop k bs)))
  root_split = rw s.power ((root_rfc d).more s.level bs s.splits)

  pub path_split_left : (i : ℕ) → i < k → path d i bs ≡ path d i (take k bs) ++ root d (drop k bs) ∷ []
  path_split_left i l = rw s.power ((path_rfc d).on_left s.level i bs s.splits (rw s.power at l))

  pub path_split_right : (i : ℕ) → k ≤ i → i < length bs → path d i bs ≡ path d (i - k) (drop k bs) ++ root d (take k bs) ∷ []
  path_split_right i r h = rw s.power ((path_rfc d).on_right s.level i bs s.splits (rw s.power at r) h)

-- no block, and one
module _ (d : Bytes → Bytes) where
  pub root_empty : (bs : List Bytes) (r : Bytes) → length bs ≡ 0 → r ≡ d [] → r ≡ root d bs
  unfolding root_at
  root_empty [] r h e = e
  root_empty (b ∷ bs) r h e = absurd (omega arith)

  pub root_single : (bs : List Bytes) (r : Bytes) → length bs ≡ 1 → r ≡ d (leaf (get_or bs 0 [])) → r ≡ root d bs
  unfolding root_at
  root_single [] r h e = absurd (omega arith)
  root_single (b ∷ []) r h e = e
  root_single (b ∷ c ∷ bs) r h e = absurd (omega arith)

  pub path_single : (i : ℕ) (bs : List Bytes) → length bs < 2 → path d i bs ≡ []
  unfolding path_at
  path_single i bs h = path_is d 0 i bs (omega arith)

-- the turns of a block, and those of the node above it
turns_is : (L i n : ℕ) → n ≤ 2 ^ L → turns i n ≡ turns_at L i n
turns_is L i n = own_level (λ k. turns_at k i n) n (λ k. turns_low k i n) L

pub turns_step : (i m : ℕ) → i ≤ m → turns i (suc m) ≡ turn i m ++ turns (i / 2) (suc (m / 2))
unfolding turns_up
turns_step i m h =
    let small : m < 2 ^ m = below_pow m in
    let half : m / 2 < 2 ^ m = omega arith in
    turns_is (suc m) i (suc m) (omega arith)
    ∙ sym (turns_up_lem (suc m) i m h (omega arith))
    ∙ ap (λ (r : List Turn). turn i m ++ r) (turns_up_lem m (i / 2) (m / 2) (omega arith) half ∙ sym (turns_is m (i / 2) (suc (m / 2)) half))

pub turns_one : (i : ℕ) → turns i 1 ≡ []
unfolding turns_at
turns_one i = refl

-- a list by its first member
pub first_rest : {X : Type 0} (xs : List X) (e : X) → 0 < length xs → xs ≡ get_or xs 0 e ∷ drop 1 xs
first_rest [] e h = absurd (omega arith)
first_rest (x ∷ xs) e h = refl

module _ (d : Bytes → Bytes) where
  -- no sibling is left, or no level
  pub from_none : (x : Bytes) (ts : List Turn) (ps : List Bytes) → length ps ≡ 0 → x ≡ root_from d x ts ps
  unfolding root_from
  from_none x [] [] h = refl
  from_none x (t ∷ ts) [] h = refl
  from_none x ts (p ∷ ps) h = absurd (omega arith)

  pub from_one : (x : Bytes) (i m : ℕ) (ps : List Bytes) → m ≡ 0 → x ≡ root_from d x (turns i (suc m)) ps
  unfolding root_from
  from_one x i m ps e = rw (e, turns_one i)

  -- one level up: the block is a right part, a left part, or the last and carried up
  module _ (x y z : Bytes) (i m : ℕ) (ps : List Bytes) (h : i ≤ m) where
    pub from_right : 0 < length ps → i % 2 ≡ 1 → y ≡ d (node (get_or ps 0 []) x) → z ≡ root_from d y (turns (i / 2) (suc (m / 2))) (drop 1 ps) → z ≡ root_from d x (turns i (suc m)) ps
    unfolding root_from
    from_right l o e f = f ∙ ap (λ (w : Bytes). root_from d w (turns (i / 2) (suc (m / 2))) (drop 1 ps)) e ∙ sym (rw (turns_step i m h, turn_odd i m o, first_rest ps [] l))

    pub from_left : 0 < length ps → i % 2 ≡ 0 → i < m → y ≡ d (node x (get_or ps 0 [])) → z ≡ root_from d y (turns (i / 2) (suc (m / 2))) (drop 1 ps) → z ≡ root_from d x (turns i (suc m)) ps
    unfolding root_from
    from_left l o k e f = f ∙ ap (λ (w : Bytes). root_from d w (turns (i / 2) (suc (m / 2))) (drop 1 ps)) e ∙ sym (rw (turns_step i m h, turn_even i m o k, first_rest ps [] l))

    pub from_carried : i % 2 ≡ 0 → m ≤ i → z ≡ root_from d x (turns (i / 2) (suc (m / 2))) ps → z ≡ root_from d x (turns i (suc m)) ps
    from_carried o k f = f ∙ sym (rw (turns_step i m h, turn_last i m o k))

-- a member put after those in front
pub put_next : {X : Type 0} (o a z ps : List X) (x : X) (p : ℕ) → length ps ≡ p → p < length o → a ≡ ps ++ drop p o → z ≡ set a p x → z ≡ (ps ++ x ∷ []) ++ drop (p + 1) o
put_next o a z ps x p l h e f =
    let more : drop p o ≡ get_or o p x ∷ drop (p + 1) o = rw add-one (drop-cons o p x h) in
    let there = set_at ps (get_or o p x) (drop (p + 1) o) x p l in
    let parts = append_assoc ps (x ∷ []) (drop (p + 1) o) in
    cc

-- the path of a part, and then the root of the other part
pub wrote :
    (d : Bytes → Bytes) (i j : ℕ) (bs part other o a z : List Bytes) (x : Bytes) (p q : ℕ) → j < length part →
    path d i bs ≡ path d j part ++ root d other ∷ [] → path_length i (length bs) ≡ suc (path_length j (length part)) → path_length i (length bs) ≤ length o →
    p ≡ path_length j (length part) → a ≡ path d j part ++ drop p o → x ≡ root d other → q ≡ p + 1 → z ≡ set a p x →
    (q ≡ path_length i (length bs)) × (z ≡ path d i bs ++ drop q o)
wrote d i j bs part other o a z x p q within path_is length_is room long front is-root next put =
    let whole = put_next o a z (path d j part) x p (path_length_lem d j part within ∙ sym long) (omega arith) front put in
    (omega arith, cc)
