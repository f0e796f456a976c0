-- Two pairs of block and path that lead to one root are the same pair, or two of the strings hashed for them clash; and so a pair that leads to the root of blocks is their block and path.
use Rattle.std.proofs.Common.{◌≡◌, ℕ, suc, ◌-◌, ◌^◌, ◌<◌, ◌≤◌, ◌⊎◌, List, [], ◌∷◌, ◌++◌, length, get_or, take, drop, sym, refl, ap, ◌∙◌, ap₂, inl, inr, ⊎_elim, arith, length-append, take_at, drop_at}
use mathlib.Core.Logic.{⊎_map}
use mathlib.Core.List.Memᴰ
use mathlib.Core.List.{Memᴰ, List-discrete}
use native.Mathlib.Decide.{ℕ_discrete}
use Rattle.std.proofs.lemmas.Bool.{le-leb, lt-leb}
use Rattle.hash.specs.Hash.{Bytes}
use Rattle.tree.specs.Tree.{leaf, node, Turn, left, right, join, turns_at, path_length_at, root_at, path_at, root_from, strings_from, path_root, path_strings, root_strings_at, Clash}
use Rattle.tree.proofs.Paths.{Fits, by_place, turns_low, turns-length, path_length_lem, path_leads, path_low, path_left, path_right, place_left, place_right, block_left, block_right}

abbrev Within : List Bytes → List Bytes → Type 0
Within xs zs = (s : Bytes) → Memᴰ s xs → Memᴰ s zs

same_halves : (a b c e : Bytes) → length a ≡ length c → a ++ b ≡ c ++ e → (a ≡ c) × (b ≡ e)
same_halves a b c e h p = (
  sym (take_at a b (length a) refl) ∙ ap (λ (s : Bytes). take (length a) s) p ∙ take_at c e (length a) (sym h),
  sym (drop_at a b (length a) refl) ∙ ap (λ (s : Bytes). drop (length a) s) p ∙ drop_at c e (length a) (sym h),
)

same_node : (a b c e : Bytes) → length a ≡ length c → node a b ≡ node c e → (a ≡ c) × (b ≡ e)
same_node a b c e h p = same_halves a b c e h (cc)

same_join : (t : Turn) (x y p q : Bytes) → length x ≡ length y → join t x p ≡ join t y q → (x ≡ y) × (p ≡ q)
same_join left x y p q h e = same_node x p y q h e
same_join right x y p q h e =
    let k : length p ≡ length q = omega (arith, h, simp length-append at (ap length e)) in
    let r = same_node p x q y k e in
    (r.1, r.0)

module _ (d : Bytes → Bytes) where
  same_or_clash : (zs : List Bytes) (s t : Bytes) → Memᴰ s zs → Memᴰ t zs → d s ≡ d t → (s ≡ t) ⊎ Clash d zs
  same_or_clash zs s t hs ht e = go (List-discrete ℕ_discrete s t)
    where
      go : Dec (s ≡ t) → (s ≡ t) ⊎ Clash d zs
      go (yes p) = inl p
      go (no n) = inr (record { one = s; other = t; has_one = hs; has_other = ht; differ = n; agree = e })

  module _ (size : (m : Bytes) → length (d m) ≡ 32) (zs : List Bytes) where
    same_from : (ts : List Turn) (x y : Bytes) (ps qs : List Bytes) → length x ≡ length y → length ps ≡ length ts → length qs ≡ length ts →
        Within (strings_from d x ts ps) zs → Within (strings_from d y ts qs) zs → root_from d x ts ps ≡ root_from d y ts qs → ((x ≡ y) × (ps ≡ qs)) ⊎ Clash d zs
    unfolding root_from strings_from
    same_from [] x y [] [] n hp hq wp wq e = inl (e, refl)
    same_from [] x y (p ∷ ps) qs n hp hq wp wq e = absurd (omega arith)
    same_from [] x y [] (q ∷ qs) n hp hq wp wq e = absurd (omega arith)
    same_from (t ∷ ts) x y [] qs n hp hq wp wq e = absurd (omega arith)
    same_from (t ∷ ts) x y (p ∷ ps) [] n hp hq wp wq e = absurd (omega arith)
    same_from (t ∷ ts) x y (p ∷ ps) (q ∷ qs) n hp hq wp wq e =
        ⊎_elim
        (λ r. ⊎_map
        (λ j. let s = same_join t x y p q n j in (s.0, ap₂ {C = List Bytes} (λ u us. u ∷ us) s.1 r.1))
        (λ c. c)
        (same_or_clash zs (join t x p) (join t y q) (wp _ (Memᴰ.head refl)) (wq _ (Memᴰ.head refl)) r.0))
        (λ c. inr c)
        (same_from ts (d (join t x p)) (d (join t y q)) ps qs (size (join t x p) ∙ sym (size (join t y q))) (omega arith) (omega arith)
        (λ s m. wp s (Memᴰ.tail m)) (λ s m. wq s (Memᴰ.tail m)) e)

    same_path : (ts : List Turn) (b c : Bytes) (ps qs : List Bytes) → length ps ≡ length ts → length qs ≡ length ts →
        Within (path_strings d ts b ps) zs → Within (path_strings d ts c qs) zs → path_root d ts b ps ≡ path_root d ts c qs → ((b ≡ c) × (ps ≡ qs)) ⊎ Clash d zs
    same_path ts b c ps qs hp hq wp wq e =
        ⊎_elim
        (λ r. ⊎_map (λ j. (cc, r.1)) (λ k. k) (same_or_clash zs (leaf b) (leaf c) (wp _ (Memᴰ.head refl)) (wq _ (Memᴰ.head refl)) r.0))
        (λ k. inr k)
        (same_from ts (d (leaf b)) (d (leaf c)) ps qs (size (leaf b) ∙ sym (size (leaf c))) hp hq
        (λ s m. wp s (Memᴰ.tail m)) (λ s m. wq s (Memᴰ.tail m)) e)

  strings_low : (L : ℕ) (bs : List Bytes) → length bs ≤ 2 ^ L → root_strings_at d (suc L) bs ≡ root_strings_at d L bs
  unfolding root_strings_at
  strings_low L bs h = rw (le-leb (length bs) (2 ^ L) h, root_strings_at)

  strings_high : (L : ℕ) (bs : List Bytes) → 2 ^ L < length bs →
      root_strings_at d (suc L) bs ≡ node (root_at d L (take (2 ^ L) bs)) (root_at d L (drop (2 ^ L) bs)) ∷ (root_strings_at d L (take (2 ^ L) bs) ++ root_strings_at d L (drop (2 ^ L) bs))
  unfolding root_strings_at
  strings_high L bs h = rw (lt-leb (length bs) (2 ^ L) h, root_strings_at)

  strings_from_push : (x : Bytes) (ts : List Turn) (t : Turn) (ps : List Bytes) (p : Bytes) → length ps ≡ length ts →
      strings_from d x (ts ++ t ∷ []) (ps ++ p ∷ []) ≡ strings_from d x ts ps ++ join t (root_from d x ts ps) p ∷ []
  unfolding root_from strings_from
  strings_from_push x [] t [] p h = refl
  strings_from_push x [] t (q ∷ ps) p h = absurd (omega arith)
  strings_from_push x (s ∷ ts) t [] p h = absurd (omega arith)
  strings_from_push x (s ∷ ts) t (q ∷ ps) p h = ap (λ (r : List Bytes). join s x q ∷ r) (strings_from_push (d (join s x q)) ts t ps p (omega arith))

  -- every string that is hashed along a block's own path is hashed for the root
  push_within : (xs zs : List Bytes) (s : Bytes) → Within xs zs → Within (xs ++ s ∷ []) (s ∷ zs)
  push_within xs zs s w t m = ⊎_elim (λ h. Memᴰ.tail (w t h)) (λ h. Memᴰ.head (Memᴰ.eq_of_singleton h)) (Memᴰ.append_cases xs m)

  path_within : (L i : ℕ) (bs : List Bytes) → Fits L i bs → Within (path_strings d (turns_at L i (length bs)) (get_or bs i []) (path_at d L i bs)) (root_strings_at d L bs)
  unfolding path_at turns_at strings_from root_strings_at
  path_within =
      by_place (λ L i bs. Within (path_strings d (turns_at L i (length bs)) (get_or bs i []) (path_at d L i bs)) (root_strings_at d L bs))
      (λ b s m. m)
      (λ L i bs f w. rw (path_low d L i bs f.held, turns_low L i (length bs) f.held, strings_low L bs f.held) w)
      (λ L i bs l m f w.
      rw (
        path_left d L i bs l m,
        place_left L i bs m l,
        block_left L i bs m l,
        strings_from_push _ _ left _ _ (path_length_lem d L i (take (2 ^ L) bs) f),
        path_leads d L i (take (2 ^ L) bs) f,
        strings_high L bs m,
      )
      (push_within _ _ _ (λ s h. Memᴰ.append_left _ (w s h))))
      (λ L i bs r m f w.
      rw (
        path_right d L i bs r m,
        place_right L i bs m r,
        block_right L i bs m r,
        strings_from_push _ _ right _ _ (path_length_lem d L (i - 2 ^ L) (drop (2 ^ L) bs) f),
        path_leads d L (i - 2 ^ L) (drop (2 ^ L) bs) f,
        strings_high L bs m,
      )
      (push_within _ _ _ (λ s h. Memᴰ.append_right _ (w s h))))

  module _ (size : (m : Bytes) → length (d m) ≡ 32) where
    -- two pairs
    pub two_paths : (ts : List Turn) (b c : Bytes) (ps qs : List Bytes) → length ps ≡ length ts → length qs ≡ length ts → path_root d ts b ps ≡ path_root d ts c qs →
        ((b ≡ c) × (ps ≡ qs)) ⊎ Clash d (path_strings d ts b ps ++ path_strings d ts c qs)
    two_paths ts b c ps qs hp hq e = same_path size _ ts b c ps qs hp hq (λ s m. Memᴰ.append_left _ m) (λ s m. Memᴰ.append_right (path_strings d ts b ps) m) e

    -- soundness
    pub sound : (L i : ℕ) (bs : List Bytes) → Fits L i bs → (b : Bytes) (path : List Bytes) → length path ≡ path_length_at L i (length bs) →
        path_root d (turns_at L i (length bs)) b path ≡ root_at d L bs →
        ((b ≡ get_or bs i []) × (path ≡ path_at d L i bs)) ⊎ Clash d (path_strings d (turns_at L i (length bs)) b path ++ root_strings_at d L bs)
    sound L i bs f b path n e =
        same_path size _ (turns_at L i (length bs)) b (get_or bs i []) path (path_at d L i bs) (n ∙ sym (turns-length L i (length bs))) (path_length_lem d L i bs f)
        (λ s m. Memᴰ.append_left _ m) (λ s m. Memᴰ.append_right (path_strings d (turns_at L i (length bs)) b path) (path_within L i bs f s m)) (e ∙ sym (path_leads d L i bs f))
