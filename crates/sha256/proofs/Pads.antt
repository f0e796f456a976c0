-- How long a padded message is, and what stands where in it.
-- Assumes nothing.
use Rattle.std.specs.Prelude.{◌≡◌, ℕ, ◌+◌, ◌*◌, ◌/◌, ◌%◌, ◌<◌, ◌≤◌, min, List, [], ◌∷◌, ◌++◌, length, take, drop, replicate, slice_index}
use Rattle.std.proofs.Common.{refl, sym, ap, ◌∙◌, append_assoc, arith}
use Rattle.std.proofs.lemmas.List.{length-append, length-replicate, length-take, length-drop, get_or-take, get_or-drop, ext_get_or, take-append-le, drop-append-le, drop_at, drop-drop}
use Rattle.sha256.specs.Padding.{bytes64, zeros, pad}

-- a message, the byte 0x80 and the zeros
abbrev pub body : List ℕ → List ℕ
body m = (m ++ 0x80 ∷ []) ++ replicate (zeros (length m)) 0

pub pad_is : (m : List ℕ) → pad m ≡ body m ++ bytes64 (8 * length m)
unfolding pad
pad_is m = simp append_assoc

pub length-body : (m : List ℕ) → length (body m) ≡ length m + 1 + zeros (length m)
length-body m = simp (length-append, length-replicate)

pub length-pad : (m : List ℕ) → length (pad m) ≡ length m + 1 + zeros (length m) + 8
length-pad m =
    ap length (pad_is m) ∙ length-append (body m) (bytes64 (8 * length m)) ∙ ap (λ (k : ℕ). k + 8) (length-body m)

pub blocks_pad : (m : List ℕ) (n : ℕ) → n ≡ length m + 1 + 8 → 64 * (n / 64 + min 1 (n % 64)) ≡ length (pad m)
blocks_pad m n e = omega (arith, length-pad m)

-- what comes after a message
abbrev rest : List ℕ → List ℕ
rest m = (0x80 ∷ replicate (zeros (length m)) 0) ++ bytes64 (8 * length m)

pad_text : (m : List ℕ) → pad m ≡ m ++ rest m
unfolding pad
pad_text m = append_assoc m (0x80 ∷ replicate (zeros (length m)) 0) (bytes64 (8 * length m))

-- 64 bytes of ys, where it stands between others
whole_in : (xs ys zs P : List ℕ) (n a : ℕ) → P ≡ (xs ++ ys) ++ zs → n ≡ length xs + a → a + 64 ≤ length ys → take 64 (drop a ys) ≡ take 64 (drop n P)
whole_in xs ys zs P n a is at h =
    let fits : 64 ≤ length (drop a ys) = simp length-drop (omega arith) in
    let le : a ≤ length ys = omega arith in
    sym (take-append-le 64 (drop a ys) zs fits)
    ∙ ap (take 64) (sym (drop-append-le a ys zs le))
    ∙ ap (λ (l : List ℕ). take 64 (drop a l)) (sym (drop_at xs (ys ++ zs) (length xs) refl))
    ∙ ap (take 64) (drop-drop a (length xs) (xs ++ (ys ++ zs)))
    ∙ ap (λ (l : List ℕ). take 64 (drop (length xs + a) l)) (sym (append_assoc xs ys zs) ∙ sym is)
    ∙ ap (λ (k : ℕ). take 64 (drop k P)) (sym at)

module _ (first second m : List ℕ) (is : first ++ second ≡ m) where
  padded_is : pad m ≡ (first ++ second) ++ rest m
  padded_is = pad_text m ∙ ap (λ (l : List ℕ). l ++ rest m) (sym is)

  pub whole_first : (n : ℕ) → n + 64 ≤ length first → take 64 (drop n first) ≡ take 64 (drop n (pad m))
  whole_first n = whole_in [] first (second ++ rest m) (pad m) n n (padded_is ∙ append_assoc first second (rest m)) (omega arith)

  pub whole_second : (n a : ℕ) → n ≡ length first + a → a + 64 ≤ length second → take 64 (drop a second) ≡ take 64 (drop n (pad m))
  whole_second n a = whole_in first second (rest m) (pad m) n a padded_is

-- how long a message in two short parts is when padded
pub padded_below : (first second m : List ℕ) → first ++ second ≡ m → length first ≤ 65536 → length second ≤ 65536 → length (pad m) ≤ 131144
padded_below first second m is h k = omega (arith, length-pad m, ap length (sym is), length-append first second)

-- 64 bytes, each of which stands at its place from a on
pub filled : (P xs : List ℕ) (a : ℕ) → a + 64 ≤ length P → length xs ≡ 64
    → ((k : ℕ) → k < 64 → slice_index xs k ≡ slice_index P (a + k)) → xs ≡ take 64 (drop a P)
filled P xs a fits n each =
    let m : length (take 64 (drop a P)) ≡ 64 = simp (length-take, length-drop) (omega arith) in
    ext_get_or 0 xs (take 64 (drop a P)) (omega arith)
    (λ k h. let lt : k < 64 = omega arith in each k lt ∙ sym (get_or-take 64 (drop a P) k 0 lt ∙ get_or-drop a P k 0))
