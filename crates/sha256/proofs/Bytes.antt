-- The bytes of a hash value, each at its place.
-- Assumes nothing.
use Rattle.std.proofs.Common.{◌≡◌, ℕ, zero, suc, ◌*◌, ◌/◌, ◌%◌, ◌<◌, List, [], ◌∷◌, length, get_or, refl, ap, ◌∙◌, arith}
use Rattle.std.proofs.lemmas.List.{ext_get_or}
use Rattle.std.proofs.lemmas.List.FromFn.{fill_by_all}
use Rattle.sha256.specs.Words.{◌⊞◌}
use Rattle.sha256.specs.Hash.{bytes, bytes32}
use Rattle.sha256.specs.Sized.{length-bytes}

-- eight sums
pub sums_are : (v H ys : List ℕ) → length ys ≡ 8 → ((i d : ℕ) → i < 8 → get_or ys i d ≡ get_or v i 0 ⊞ get_or H i 0)
    → ys ≡ (get_or v 0 0 ⊞ get_or H 0 0) ∷ (get_or v 1 0 ⊞ get_or H 1 0) ∷ (get_or v 2 0 ⊞ get_or H 2 0) ∷ (get_or v 3 0 ⊞ get_or H 3 0)
    ∷ (get_or v 4 0 ⊞ get_or H 4 0) ∷ (get_or v 5 0 ⊞ get_or H 5 0) ∷ (get_or v 6 0 ⊞ get_or H 6 0) ∷ (get_or v 7 0 ⊞ get_or H 7 0) ∷ []
sums_are v H ys long each =
    fill_by_all (λ i. get_or v i 0 ⊞ get_or H i 0) ys 8 0 long (λ i l. each i 0 l)

-- the byte at k is one of the word at k / 4
byte_at : (xs : List ℕ) (k : ℕ) → k < 4 * length xs → get_or (bytes32 (get_or xs (k / 4) 0)) (k % 4) 0 ≡ get_or (bytes xs) k 0
unfolding bytes
byte_at [] k h = absurd (omega arith)
byte_at (x ∷ xs) zero h = refl
byte_at (x ∷ xs) (suc zero) h = refl
byte_at (x ∷ xs) (suc (suc zero)) h = refl
byte_at (x ∷ xs) (suc (suc (suc zero))) h = refl
byte_at (x ∷ xs) (suc (suc (suc (suc k)))) h =
    let d : suc (suc (suc (suc k))) / 4 ≡ suc (k / 4) = omega arith in
    let r : suc (suc (suc (suc k))) % 4 ≡ k % 4 = omega arith in
    ap (λ (i : ℕ). get_or (bytes32 (get_or (x ∷ xs) i 0)) (suc (suc (suc (suc k))) % 4) 0) d
    ∙ ap (λ (i : ℕ). get_or (bytes32 (get_or xs (k / 4) 0)) i 0) r
    ∙ byte_at xs k (omega arith)

pub bytes_are : (xs ys : List ℕ) → length xs ≡ 8 → length ys ≡ 32
    → ((k d : ℕ) → k < 32 → get_or ys k d ≡ get_or (bytes32 (get_or xs (k / 4) 0)) (k % 4) 0) → ys ≡ bytes xs
bytes_are xs ys l m each =
    ext_get_or 0 ys (bytes xs) (omega (arith, length-bytes xs))
    (λ k h. let b : k < 32 = omega arith in each k 0 b ∙ byte_at xs k (omega arith))
