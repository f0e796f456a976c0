-- The root: its two steps, that the level does not matter, the equations of RFC 6962, and that these have one solution.
use Rattle.std.proofs.Common.{◌≡◌, ℕ, zero, suc, ◌^◌, ◌<◌, ◌≤◌, List, [], ◌∷◌, length, take, drop, sym, refl, ◌∙◌, ap₂, ⊎_elim, le_of_lt, arith, length-drop, length-take}
use Rattle.std.proofs.lemmas.Bool.{le-leb, lt-leb, cases_lt}
use Rattle.tree.proofs.Level.{any_level, own_level, below_pow}
use Rattle.tree.specs.Laws.{RfcRoot}
use Rattle.hash.specs.Hash.{Bytes}
use Rattle.tree.specs.Tree.{Splits, leaf, node, root_at, root}

module _ (d : Bytes → Bytes) where
  pub root_low : (L : ℕ) (bs : List Bytes) → length bs ≤ 2 ^ L → root_at d (suc L) bs ≡ root_at d L bs
  unfolding root_at
  root_low L bs h = rw (le-leb (length bs) (2 ^ L) h, root_at)

  pub root_high : (L : ℕ) (bs : List Bytes) → 2 ^ L < length bs → root_at d (suc L) bs ≡ d (node (root_at d L (take (2 ^ L) bs)) (root_at d L (drop (2 ^ L) bs)))
  unfolding root_at
  root_high L bs h = rw (lt-leb (length bs) (2 ^ L) h, root_at)

  -- any two levels that hold the blocks
  pub root_level : (L M : ℕ) (bs : List Bytes) → length bs ≤ 2 ^ L → length bs ≤ 2 ^ M → root_at d L bs ≡ root_at d M bs
  root_level L M bs = any_level (λ k. root_at d k bs) (length bs) (λ k. root_low k bs) L M

  pub root_is : (L : ℕ) (bs : List Bytes) → length bs ≤ 2 ^ L → root d bs ≡ root_at d L bs
  root_is L bs = own_level (λ k. root_at d k bs) (length bs) (λ k. root_low k bs) L

  -- the three equations of RFC 6962
  pub root_none : root d [] ≡ d []
  unfolding root_at
  root_none = refl

  pub root_one : (b : Bytes) → root d (b ∷ []) ≡ d (leaf b)
  unfolding root_at
  root_one b = refl

  pub root_more : (L : ℕ) (bs : List Bytes) → Splits L (length bs) → root d bs ≡ d (node (root d (take (2 ^ L) bs)) (root d (drop (2 ^ L) bs)))
  root_more L bs s =
      root_is (suc L) bs s.most ∙ root_high L bs s.more
      ∙ ap₂ (λ (l r : Bytes). d (node l r)) (sym (root_is L (take (2 ^ L) bs) (simp length-take (omega arith)))) (sym (root_is L (drop (2 ^ L) bs) (simp length-drop (omega arith))))

  -- and whatever meets them is the root
  module _ (r : List Bytes → Bytes) (e : RfcRoot d r) where
    root_only : (L : ℕ) (bs : List Bytes) → length bs ≤ 2 ^ L → r bs ≡ root_at d L bs
    unfolding root_at
    root_only zero [] h = e.none
    root_only zero (b ∷ []) h = e.one b
    root_only zero (b ∷ c ∷ bs) h = absurd (omega arith)
    root_only (suc L) bs h =
        ⊎_elim
        (λ k. e.more L bs (record { more = k; most = h })
        ∙ ap₂ (λ (x y : Bytes). d (node x y)) (root_only L (take (2 ^ L) bs) (simp length-take (omega arith))) (root_only L (drop (2 ^ L) bs) (simp length-drop (omega arith)))
        ∙ sym (root_high L bs k))
        (λ k. root_only L bs k ∙ sym (root_low L bs k))
        (cases_lt (2 ^ L) (length bs))

    pub root_alone : (bs : List Bytes) → r bs ≡ root d bs
    root_alone bs = root_only (length bs) bs (le_of_lt (below_pow (length bs)))

  pub root_rfc : RfcRoot d (root d)
  root_rfc = record { none = root_none; one = root_one; more = root_more }
