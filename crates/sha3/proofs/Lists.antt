-- Lists as the loops and writes of `block` make them.
-- Assumes nothing.
use Rattle.std.proofs.Common.{◌≡◌, ℕ, zero, suc, ◌+◌, ◌-◌, ◌*◌, ◌<◌, ◌≤◌, List, [], ◌∷◌, ◌++◌, map, length, get_or, take, drop, set, replicate, sym, refl, ap, ◌∙◌, add-one, add-zero, arith, lit<}
use borrow.Rule.Slice.PartMut.{put_mid}
use lib.Bits.{bit_or, bit_xor}
use lib.ListN.{length-replicate}
use Rattle.std.specs.Int.{w64, from_le_bytes}
use Rattle.std.specs.List.{range_with_len}
use Rattle.std.specs.Simd.{first_chunks}
use Rattle.std.proofs.lemmas.List.FromFn.{length-map-range_with_len, map-range_with_len_more}
use Rattle.std.proofs.lemmas.List.{append_assoc, drop_more, set_at, get_or_at, get_or-take, get_or-drop, get_or-replicate, get_or-append_right, set-append_right, replicate_more, take_at, drop_at, drop-drop}
use Rattle.sha3.specs.Sponge.{word, padding}

-- the i-th of k chunks of n elements
pub chunk_at : (n k i : ℕ) (xs d : List ℕ) → i < k → get_or (first_chunks n k xs) i d ≡ take n (drop (i * n) xs)
chunk_at n zero i xs d h = let z : ⊥ = omega arith in absurd z
chunk_at n (suc k) zero xs d h = let e : 0 ≡ 0 * n = omega arith in ap (λ (j : ℕ). take n (drop j xs)) e
chunk_at n (suc k) (suc i) xs d h =
    let e : n + i * n ≡ suc i * n = grind arith in
    chunk_at n k i (drop n xs) d (omega arith) ∙ ap (take n) (drop-drop (i * n) n xs ∙ ap (λ (j : ℕ). drop j xs) e)

-- the word of the eight bytes from i on
pub word_at : (B : List ℕ) (i : ℕ) → from_le_bytes w64 (take 8 (drop i B)) ≡ word B i
word_at B i =
    let at : (j : ℕ) → j < 8 → get_or (take 8 (drop i B)) j 0 ≡ get_or B (i + j) 0 = λ j h. get_or-take 8 (drop i B) j 0 h ∙ get_or-drop i B j 0 in
    let first : get_or (take 8 (drop i B)) 0 0 ≡ get_or B i 0 = at 0 (lit< tt) ∙ ap (λ (j : ℕ). get_or B j 0) (add-zero i) in
    simp (first, at 1 (lit< tt), at 2 (lit< tt), at 3 (lit< tt), at 4 (lit< tt), at 5 (lit< tt), at 6 (lit< tt), at 7 (lit< tt)) refl

-- a lane with the block's word added
abbrev pub lane_with : List ℕ → List ℕ → ℕ → ℕ
lane_with A B i = bit_xor (get_or A i 0) (word B (8 * i))

-- the next lane of a list whose lanes below i are made
module _ (f : ℕ → ℕ) (A L : List ℕ) (i : ℕ) (h : i < length A) (e : L ≡ map f (range_with_len 0 i) ++ drop i A) where
  split : L ≡ map f (range_with_len 0 i) ++ (get_or A i 0 ∷ drop (i + 1) A)
  split = e ∙ ap (λ (r : List ℕ). map f (range_with_len 0 i) ++ r) (drop_more A i 0 h)

  pub here : get_or L i 0 ≡ get_or A i 0
  here =
      ap (λ (r : List ℕ). get_or r i 0) split
      ∙ get_or_at (map f (range_with_len 0 i)) (get_or A i 0) (drop (i + 1) A) 0 i (length-map-range_with_len f 0 i)

  pub made_more : set L i (f i) ≡ map f (range_with_len 0 (i + 1)) ++ drop (i + 1) A
  made_more =
      ap (λ (r : List ℕ). set r i (f i)) split
      ∙ set_at (map f (range_with_len 0 i)) (get_or A i 0) (drop (i + 1) A) (f i) i (length-map-range_with_len f 0 i)
      ∙ sym (append_assoc (map f (range_with_len 0 i)) (f i ∷ []) (drop (i + 1) A))
      ∙ ap (λ (r : List ℕ). r ++ drop (i + 1) A) (sym (map-range_with_len_more f 0 i i (omega arith)))

-- zeros with the last one set
last_set : (k v : ℕ) → set (replicate (suc k) 0) k v ≡ replicate k 0 ++ v ∷ []
last_set k v =
    ap (λ (r : List ℕ). set r k v) (ap (λ (n : ℕ). replicate n 0) (sym (add-one k)) ∙ sym (replicate_more k 0))
    ∙ set_at (replicate k 0) 0 [] v k (length-replicate k 0)

pads : (k : ℕ) → set (6 ∷ replicate k 0) k (bit_or (get_or (6 ∷ replicate k 0) k 0) 128) ≡ padding k
pads zero = refl
pads (suc k) =
    let lt : k < suc k = omega arith in
    ap (λ (n : ℕ). 6 ∷ set (replicate (suc k) 0) k (bit_or n 128)) (get_or-replicate (suc k) k 0 0 lt)
    ∙ ap (λ (r : List ℕ). 6 ∷ r) (last_set k 128)

-- a bit set in what stands at k after p
set_after : (p q : List ℕ) (n k last : ℕ) → length p ≡ n → n + k ≡ last
    → set (p ++ q) last (bit_or (get_or (p ++ q) last 0) 128) ≡ p ++ set q k (bit_or (get_or q k 0) 128)
set_after p q n k last l e =
    let le : n ≤ last = omega arith in
    let d : last - n ≡ k = omega arith in
    ap (λ (a : ℕ). set (p ++ q) last (bit_or a 128)) (get_or-append_right p q n last 0 l le)
    ∙ set-append_right p q n last (bit_or (get_or q (last - n) 0) 128) l le
    ∙ ap (λ (i : ℕ). p ++ set q i (bit_or (get_or q i 0) 128)) d

pub pad_is : (p M : List ℕ) (n k last : ℕ) → length p ≡ n → n + k ≡ last → M ≡ p ++ replicate (suc k) 0
    → set (set M n 6) last (bit_or (get_or (set M n 6) last 0) 128) ≡ p ++ padding k
pad_is p M n k last l e m =
    ap (λ (r : List ℕ). set r last (bit_or (get_or r last 0) 128)) (ap (λ (r : List ℕ). set r n 6) m ∙ set_at p 0 (replicate k 0) 6 n l)
    ∙ set_after p (6 ∷ replicate k 0) n k last l e
    ∙ ap (λ (r : List ℕ). p ++ r) (pads k)

-- a part written after what is written already
pub put_next : (P O L S : List ℕ) (a k : ℕ) → length P ≡ a → L ≡ P ++ drop a O → put_mid a k L S ≡ (P ++ S) ++ drop (a + k) O
put_next P O L S a k l e =
    ap (λ (r : List ℕ). put_mid a k r S) e
    ∙ ap (λ (r : List ℕ). r ++ (S ++ drop k (drop a (P ++ drop a O)))) (take_at P (drop a O) a l)
    ∙ ap (λ (r : List ℕ). P ++ (S ++ drop k r)) (drop_at P (drop a O) a l)
    ∙ ap (λ (r : List ℕ). P ++ (S ++ r)) (drop-drop k a O)
    ∙ sym (append_assoc P S (drop (a + k) O))
