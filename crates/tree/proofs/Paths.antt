-- The audit path: its steps, its length, and that it leads from the block to the root.
use Rattle.std.proofs.Common.{◌≡◌, ℕ, zero, suc, ◌+◌, ◌-◌, ◌^◌, ◌<◌, ◌≤◌, List, [], ◌∷◌, ◌++◌, length, get_or, take, drop, sym, refl, ap, ◌∙◌, ap₂, ⊎_elim, le_of_lt, arith, length-append, length-drop, length-take, length-take-le, get_or-drop, get_or-take}
use Rattle.std.proofs.lemmas.Bool.{le-leb, lt-leb, lt-ltb, le-ltb, cases_lt}
use Rattle.tree.proofs.Level.{own_level}
use Rattle.tree.specs.Laws.{RfcPath}
use Rattle.hash.specs.Hash.{Bytes}
use Rattle.tree.specs.Tree.{Turn, left, right, join, turns_at, path_length_at, root_at, path_at, path, root_from, path_root}
use Rattle.tree.proofs.Roots.{root_low, root_high, root_is}

-- block i is one of bs, which level L holds
pub record Fits (L i : ℕ) (bs : List Bytes) : Type 0 where
  pub within : i < length bs
  pub held : length bs ≤ 2 ^ L

-- a proof over the place of a block: the block stands alone, or the upper level is not used, or it is in the left or the right part
module _ (P : ℕ → ℕ → List Bytes → Type 0)
    (one : (b : Bytes) → P 0 0 (b ∷ []))
    (low : (L i : ℕ) (bs : List Bytes) → Fits L i bs → P L i bs → P (suc L) i bs)
    (on_left : (L i : ℕ) (bs : List Bytes) → i < 2 ^ L → 2 ^ L < length bs → Fits L i (take (2 ^ L) bs) → P L i (take (2 ^ L) bs) → P (suc L) i bs)
    (on_right : (L i : ℕ) (bs : List Bytes) → 2 ^ L ≤ i → 2 ^ L < length bs → Fits L (i - 2 ^ L) (drop (2 ^ L) bs) → P L (i - 2 ^ L) (drop (2 ^ L) bs) → P (suc L) i bs) where
  pub by_place : (L i : ℕ) (bs : List Bytes) → Fits L i bs → P L i bs
  by_place zero i [] f = absurd (omega arith)
  by_place zero zero (b ∷ []) f = one b
  by_place zero (suc i) (b ∷ []) f = absurd (omega arith)
  by_place zero i (b ∷ c ∷ bs) f = absurd (omega arith)
  by_place (suc L) i bs f =
      ⊎_elim
      (λ (m : 2 ^ L < length bs). ⊎_elim
      (λ (l : i < 2 ^ L).
      let g : Fits L i (take (2 ^ L) bs) = record { within = simp length-take (omega arith); held = simp length-take (omega arith) } in
      on_left L i bs l m g (by_place L i (take (2 ^ L) bs) g))
      (λ (r : 2 ^ L ≤ i).
      let g : Fits L (i - 2 ^ L) (drop (2 ^ L) bs) = record { within = simp length-drop (omega arith); held = simp length-drop (omega arith) } in
      on_right L i bs r m g (by_place L (i - 2 ^ L) (drop (2 ^ L) bs) g))
      (cases_lt i (2 ^ L)))
      (λ (m : length bs ≤ 2 ^ L).
      let g : Fits L i bs = record { within = f.within; held = m } in
      low L i bs g (by_place L i bs g))
      (cases_lt (2 ^ L) (length bs))

pub turns_low : (L i n : ℕ) → n ≤ 2 ^ L → turns_at (suc L) i n ≡ turns_at L i n
unfolding turns_at
turns_low L i n h = rw (le-leb n (2 ^ L) h, turns_at)

pub turns_left : (L i n : ℕ) → i < 2 ^ L → 2 ^ L < n → turns_at (suc L) i n ≡ turns_at L i (2 ^ L) ++ left ∷ []
unfolding turns_at
turns_left L i n l h = rw (lt-leb n (2 ^ L) h, lt-ltb i (2 ^ L) l, turns_at)

pub turns_right : (L i n : ℕ) → 2 ^ L ≤ i → 2 ^ L < n → turns_at (suc L) i n ≡ turns_at L (i - 2 ^ L) (n - 2 ^ L) ++ right ∷ []
unfolding turns_at
turns_right L i n r h = rw (lt-leb n (2 ^ L) h, le-ltb i (2 ^ L) r, turns_at)

pub turns-length : (L i n : ℕ) → length (turns_at L i n) ≡ path_length_at L i n
unfolding turns_at path_length_at
turns-length zero i n = refl
turns-length (suc L) i n =
    ⊎_elim
    (λ (m : 2 ^ L < n). ⊎_elim
    (λ (l : i < 2 ^ L). rw (lt-leb n (2 ^ L) m, lt-ltb i (2 ^ L) l, turns_at, path_length_at, length-append, turns-length L i (2 ^ L)) (omega arith))
    (λ (r : 2 ^ L ≤ i). rw (lt-leb n (2 ^ L) m, le-ltb i (2 ^ L) r, turns_at, path_length_at, length-append, turns-length L (i - 2 ^ L) (n - 2 ^ L)) (omega arith))
    (cases_lt i (2 ^ L)))
    (λ (m : n ≤ 2 ^ L). rw (le-leb n (2 ^ L) m, turns_at, path_length_at) (turns-length L i n))
    (cases_lt (2 ^ L) n)

-- the same of the place in a list, and the block there
module _ (L i : ℕ) (bs : List Bytes) (m : 2 ^ L < length bs) where
  pub place_left : i < 2 ^ L → turns_at (suc L) i (length bs) ≡ turns_at L i (length (take (2 ^ L) bs)) ++ left ∷ []
  place_left l = rw (length-take-le (2 ^ L) bs (le_of_lt m)) (turns_left L i (length bs) l m)

  pub place_right : 2 ^ L ≤ i → turns_at (suc L) i (length bs) ≡ turns_at L (i - 2 ^ L) (length (drop (2 ^ L) bs)) ++ right ∷ []
  place_right r = rw (length-drop (2 ^ L) bs) (turns_right L i (length bs) r m)

  pub block_left : i < 2 ^ L → get_or bs i [] ≡ get_or (take (2 ^ L) bs) i []
  block_left l = sym (get_or-take (2 ^ L) bs i [] l)

  pub block_right : 2 ^ L ≤ i → get_or bs i [] ≡ get_or (drop (2 ^ L) bs) (i - 2 ^ L) []
  block_right r = let e : i ≡ 2 ^ L + (i - 2 ^ L) = omega arith in ap (λ (k : ℕ). get_or bs k []) e ∙ sym (get_or-drop (2 ^ L) bs (i - 2 ^ L) [])

module _ (d : Bytes → Bytes) where
  pub path_low : (L i : ℕ) (bs : List Bytes) → length bs ≤ 2 ^ L → path_at d (suc L) i bs ≡ path_at d L i bs
  unfolding path_at
  path_low L i bs h = rw (le-leb (length bs) (2 ^ L) h, path_at)

  pub path_left : (L i : ℕ) (bs : List Bytes) → i < 2 ^ L → 2 ^ L < length bs →
      path_at d (suc L) i bs ≡ path_at d L i (take (2 ^ L) bs) ++ root_at d L (drop (2 ^ L) bs) ∷ []
  unfolding path_at
  path_left L i bs l h = rw (lt-leb (length bs) (2 ^ L) h, lt-ltb i (2 ^ L) l, path_at)

  pub path_right : (L i : ℕ) (bs : List Bytes) → 2 ^ L ≤ i → 2 ^ L < length bs →
      path_at d (suc L) i bs ≡ path_at d L (i - 2 ^ L) (drop (2 ^ L) bs) ++ root_at d L (take (2 ^ L) bs) ∷ []
  unfolding path_at
  path_right L i bs r h = rw (lt-leb (length bs) (2 ^ L) h, le-ltb i (2 ^ L) r, path_at)

  -- the length law: a digest for each turn
  pub path_length_lem : (L i : ℕ) (bs : List Bytes) → Fits L i bs → length (path_at d L i bs) ≡ length (turns_at L i (length bs))
  unfolding path_at turns_at
  path_length_lem =
      by_place (λ L i bs. length (path_at d L i bs) ≡ length (turns_at L i (length bs)))
      (λ b. refl)
      (λ L i bs f e. rw (path_low L i bs f.held, turns_low L i (length bs) f.held) e)
      (λ L i bs l m f e. rw (path_left L i bs l m, place_left L i bs m l) (simp length-append (omega arith)))
      (λ L i bs r m f e. rw (path_right L i bs r m, place_right L i bs m r) (simp length-append (omega arith)))

  pub from_push : (x : Bytes) (ts : List Turn) (t : Turn) (ps : List Bytes) (p : Bytes) → length ps ≡ length ts →
      root_from d x (ts ++ t ∷ []) (ps ++ p ∷ []) ≡ d (join t (root_from d x ts ps) p)
  unfolding root_from
  from_push x [] t [] p h = refl
  from_push x [] t (q ∷ ps) p h = absurd (omega arith)
  from_push x (s ∷ ts) t [] p h = absurd (omega arith)
  from_push x (s ∷ ts) t (q ∷ ps) p h = from_push (d (join s x q)) ts t ps p (omega arith)

  -- completeness
  pub path_leads : (L i : ℕ) (bs : List Bytes) → Fits L i bs → path_root d (turns_at L i (length bs)) (get_or bs i []) (path_at d L i bs) ≡ root_at d L bs
  unfolding path_at turns_at root_from root_at
  path_leads =
      by_place (λ L i bs. path_root d (turns_at L i (length bs)) (get_or bs i []) (path_at d L i bs) ≡ root_at d L bs)
      (λ b. refl)
      (λ L i bs f e. rw (path_low L i bs f.held, turns_low L i (length bs) f.held, root_low d L bs f.held) e)
      (λ L i bs l m f e.
      rw (path_left L i bs l m, place_left L i bs m l, block_left L i bs m l, from_push _ _ left _ _ (path_length_lem L i (take (2 ^ L) bs) f), e)
      (sym (root_high d L bs m)))
      (λ L i bs r m f e.
      rw (path_right L i bs r m, place_right L i bs m r, block_right L i bs m r, from_push _ _ right _ _ (path_length_lem L (i - 2 ^ L) (drop (2 ^ L) bs) f), e)
      (sym (root_high d L bs m)))

  pub path_is : (L i : ℕ) (bs : List Bytes) → length bs ≤ 2 ^ L → path d i bs ≡ path_at d L i bs
  path_is L i bs = own_level (λ k. path_at d k i bs) (length bs) (λ k. path_low k i bs) L

  pub path_rfc : RfcPath d (path d)
  unfolding path_at
  path_rfc =
      record {
        one = λ b. refl;
        on_left = λ L i bs s l. path_is (suc L) i bs s.most ∙ path_left L i bs l s.more
            ∙ ap₂ (λ (p : List Bytes) (r : Bytes). p ++ r ∷ []) (sym (path_is L i (take (2 ^ L) bs) (simp length-take (omega arith)))) (sym (root_is d L (drop (2 ^ L) bs) (simp length-drop (omega arith))));
        on_right = λ L i bs s r k. path_is (suc L) i bs s.most ∙ path_right L i bs r s.more
            ∙ ap₂ (λ (p : List Bytes) (r : Bytes). p ++ r ∷ []) (sym (path_is L (i - 2 ^ L) (drop (2 ^ L) bs) (simp length-drop (omega arith)))) (sym (root_is d L (take (2 ^ L) bs) (simp length-take (omega arith))));
      }

  -- whatever meets the equations is the path
  pub path_only : (p : ℕ → List Bytes → List Bytes) → RfcPath d p → (L i : ℕ) (bs : List Bytes) → Fits L i bs → length bs ≤ 2 ^ L → p i bs ≡ path_at d L i bs
  unfolding path_at
  path_only p e =
      by_place (λ L i bs. length bs ≤ 2 ^ L → p i bs ≡ path_at d L i bs)
      (λ b k. e.one b)
      (λ L i bs f h k. h f.held ∙ sym (path_low L i bs f.held))
      (λ L i bs l m f h k.
      e.on_left L i bs (record { more = m; most = k }) l
      ∙ ap₂ (λ (q : List Bytes) (r : Bytes). q ++ r ∷ []) (h f.held) (root_is d L (drop (2 ^ L) bs) (simp length-drop (omega arith)))
      ∙ sym (path_left L i bs l m))
      (λ L i bs r m f h k.
      let within : i < length bs = omega (arith, simp length-drop at f.within) in
      e.on_right L i bs (record { more = m; most = k }) r within
      ∙ ap₂ (λ (q : List Bytes) (r : Bytes). q ++ r ∷ []) (h f.held) (root_is d L (take (2 ^ L) bs) (simp length-take (omega arith)))
      ∙ sym (path_right L i bs r m))
