-- FIPS 180-4, section 6.2: SHA-256.
-- Assumes nothing.
use Rattle.std.specs.Prelude.{ℕ, zero, suc, ◌+◌, ◌-◌, ◌*◌, ◌/◌, ◌%◌, ◌^◌, List, [], ◌∷◌, ◌++◌, length, slice_index}
use Rattle.sha256.specs.Words.{◌⊞◌, Ch, Maj, Σ0, Σ1, σ0, σ1}
use Rattle.sha256.specs.Constants.{K, H₀}
use Rattle.sha256.specs.Padding.{pad, block}

-- the word at t of a block of bytes, the most significant byte first
abbrev pub word : List ℕ → ℕ → ℕ
word M t =
    slice_index M (4 * t) * 2 ^ 24 + slice_index M (4 * t + 1) * 2 ^ 16 + slice_index M (4 * t + 2) * 2 ^ 8 + slice_index M (4 * t + 3)

-- section 5.2.1: the first n words of a block, of which it has 16
unfoldable pub words : List ℕ → ℕ → List ℕ
words M zero = []
words M (suc n) = words M n ++ word M n ∷ []

-- the next word of the message schedule, from those before it: at t ≥ 16, σ1 W(t-2) + W(t-7) + σ0 W(t-15) + W(t-16)
unfoldable pub next : List ℕ → ℕ → ℕ
next W t = σ1 (slice_index W (t - 2)) ⊞ slice_index W (t - 7) ⊞ σ0 (slice_index W (t - 15)) ⊞ slice_index W (t - 16)

-- the first 16 + n words of the message schedule, from the words of the block
unfoldable pub expand : List ℕ → ℕ → List ℕ
expand M zero = M
expand M (suc n) = let W = expand M n in W ++ next W (n + 16) ∷ []

-- step 1: the message schedule, 64 words
abbrev pub schedule : List ℕ → List ℕ
schedule M = expand M 48

-- step 3: one round on the eight working variables a, .., h
unfoldable pub round : List ℕ → ℕ → ℕ → List ℕ
round v Kₜ Wₜ =
    let a = slice_index v 0 in
    let b = slice_index v 1 in
    let c = slice_index v 2 in
    let d = slice_index v 3 in
    let e = slice_index v 4 in
    let f = slice_index v 5 in
    let g = slice_index v 6 in
    let h = slice_index v 7 in
    let T₁ = h ⊞ Σ1 e ⊞ Ch e f g ⊞ Kₜ ⊞ Wₜ in
    let T₂ = Σ0 a ⊞ Maj a b c in
    (T₁ ⊞ T₂) ∷ a ∷ b ∷ c ∷ (d ⊞ T₁) ∷ e ∷ f ∷ g ∷ []

-- the round at t, under the schedule W
abbrev pub step : List ℕ → ℕ → List ℕ → List ℕ
step W t v = round v (slice_index K t) (slice_index W t)

-- the working variables after n rounds; step 2: at first they are the hash value H
unfoldable pub rounds : List ℕ → List ℕ → ℕ → List ℕ
rounds H W zero = H
rounds H W (suc t) = step W t (rounds H W t)

-- step 4: the hash value after a block, from the one before it
unfoldable pub compress : List ℕ → List ℕ → List ℕ
compress H M =
    let v = rounds H (schedule (words M 16)) 64 in
    (slice_index v 0 ⊞ slice_index H 0) ∷ (slice_index v 1 ⊞ slice_index H 1) ∷ (slice_index v 2 ⊞ slice_index H 2) ∷ (slice_index v 3 ⊞ slice_index H 3) ∷
    (slice_index v 4 ⊞ slice_index H 4) ∷ (slice_index v 5 ⊞ slice_index H 5) ∷ (slice_index v 6 ⊞ slice_index H 6) ∷ (slice_index v 7 ⊞ slice_index H 7) ∷ []

-- the hash value after the first i blocks of p
unfoldable pub intermediate : List ℕ → ℕ → List ℕ
intermediate p zero = H₀
intermediate p (suc i) = compress (intermediate p i) (block p i)

-- the hash value after the last block of the padded message
unfoldable pub final : List ℕ → List ℕ
final m = let p = pad m in intermediate p (length p / 64)

-- a word as 4 bytes, the most significant first
abbrev pub bytes32 : ℕ → List ℕ
bytes32 x = (x / 2 ^ 24 % 256) ∷ (x / 2 ^ 16 % 256) ∷ (x / 2 ^ 8 % 256) ∷ (x % 256) ∷ []

-- words as bytes
unfoldable pub bytes : List ℕ → List ℕ
bytes [] = []
bytes (x ∷ xs) = bytes32 x ++ bytes xs

-- the digest of a message
unfoldable pub sha256 : List ℕ → List ℕ
sha256 m = bytes (final m)
