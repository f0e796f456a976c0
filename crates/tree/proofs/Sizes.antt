-- Roots, and the digests of a path, have 32 bytes; so a path that is joined can be taken apart again.
use Rattle.std.proofs.Common.{◌≡◌, ℕ, zero, suc, ◌-◌, ◌*◌, ◌/◌, ◌^◌, ◌<◌, ◌≤◌, List, [], ◌∷◌, ◌++◌, length, take, drop, refl, ap, ◌∙◌, ap₂, ⊎_elim, arith, length-append, take_at, drop_at}
use Rattle.std.proofs.lemmas.Bool.{cases_lt}
use Rattle.std.specs.List.{flat_map}
use Rattle.std.specs.Simd.{first_chunks}
use Rattle.hash.specs.Hash.{Bytes}
use Rattle.tree.specs.Laws.{Hash, Sized}
use Rattle.tree.specs.Tree.{leaf, root_at, path_at, digests}
use Rattle.tree.proofs.Paths.{Fits, by_place, path_low, path_left, path_right}
use Rattle.tree.proofs.Roots.{root_low, root_high}

-- each has 32 bytes
abbrev pub AllDigests : List Bytes → Type 0
AllDigests [] = Unit {0}
AllDigests (p ∷ ps) = (length p ≡ 32) × AllDigests ps

one_more : (ps : List Bytes) (p : Bytes) → AllDigests ps → length p ≡ 32 → AllDigests (ps ++ p ∷ [])
one_more [] p h l = (l, tt)
one_more (q ∷ ps) p h l = (h.0, one_more ps p h.1 l)

module _ (d : Hash) (size : Sized d) where
  pub root_size : (L : ℕ) (bs : List Bytes) → length (root_at d L bs) ≡ 32
  unfolding root_at
  root_size zero [] = size []
  root_size zero (b ∷ bs) = size (leaf b)
  root_size (suc L) bs =
      ⊎_elim (λ (m : 2 ^ L < length bs). rw (root_high d L bs m) (size _)) (λ (m : length bs ≤ 2 ^ L). rw (root_low d L bs m) (root_size L bs)) (cases_lt (2 ^ L) (length bs))

  pub path-digests : (L i : ℕ) (bs : List Bytes) → Fits L i bs → AllDigests (path_at d L i bs)
  unfolding path_at
  path-digests =
      by_place (λ L i bs. AllDigests (path_at d L i bs))
      (λ b. tt)
      (λ L i bs f h. rw (path_low d L i bs f.held) h)
      (λ L i bs l m f h. rw (path_left d L i bs l m) (one_more (path_at d L i (take (2 ^ L) bs)) (root_at d L (drop (2 ^ L) bs)) h (root_size L (drop (2 ^ L) bs))))
      (λ L i bs r m f h. rw (path_right d L i bs r m) (one_more (path_at d L (i - 2 ^ L) (drop (2 ^ L) bs)) (root_at d L (take (2 ^ L) bs)) h (root_size L (take (2 ^ L) bs))))

pub joined_length : (ps : List Bytes) → AllDigests ps → length (flat_map (λ p. p) ps) ≡ 32 * length ps
joined_length [] h = refl
joined_length (p ∷ ps) h = omega (arith, length-append p (flat_map (λ q. q) ps), h.0, joined_length ps h.1)

taken_apart : (ps : List Bytes) → AllDigests ps → first_chunks 32 (length ps) (flat_map (λ p. p) ps) ≡ ps
taken_apart [] h = refl
taken_apart (p ∷ ps) h =
    ap₂ (λ (q : Bytes) (qs : List Bytes). q ∷ qs) (take_at p (flat_map (λ q. q) ps) 32 h.0)
    (ap (λ (s : Bytes). first_chunks 32 (length ps) s) (drop_at p (flat_map (λ q. q) ps) 32 h.0) ∙ taken_apart ps h.1)

pub digests-joined : (ps : List Bytes) → AllDigests ps → digests (flat_map (λ p. p) ps) ≡ ps
digests-joined ps h =
    let many : length (flat_map (λ p. p) ps) / 32 ≡ length ps = omega (arith, joined_length ps h) in
    ap (λ (n : ℕ). first_chunks 32 n (flat_map (λ p. p) ps)) many ∙ taken_apart ps h
