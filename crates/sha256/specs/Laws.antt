-- What is proved of the definitions: that they say what the standard says, where they are written otherwise, and what shape a digest has.
-- Assumes nothing.
use Rattle.std.specs.Prelude.{◌≡◌, ℕ, ◌+◌, ◌-◌, ◌%◌, ◌<◌, ◌≤◌, true, List, [], ◌∷◌, length, codes, slice_index}
use Rattle.sha256.specs.Words.{◌⊞◌, σ0, σ1}
use Rattle.sha256.specs.Constants.{K, H₀}
use Rattle.sha256.specs.Roots.{all_rooted, primes_below}
use Rattle.sha256.specs.Padding.{zeros, pad}
use Rattle.sha256.specs.Hash.{word, words, schedule, sha256}

-- section 5.1.1: the count of zero bytes is the least solution k of n + 1 + k = 56 modulo 64
abbrev pub LeastZeros : Type 0
LeastZeros = (n : ℕ) → ((n + 1 + zeros n) % 64 ≡ 56) × ((k : ℕ) → (n + 1 + k) % 64 ≡ 56 → zeros n ≤ k)

-- section 5.2.1: the padded message is whole blocks
abbrev pub WholeBlocks : Type 0
WholeBlocks = (m : List ℕ) → length (pad m) % 64 ≡ 0

-- section 6.2.2, step 1: the word at t of the message schedule of a block
abbrev pub W : List ℕ → ℕ → ℕ
W M t = slice_index (schedule (words M 16)) t

-- up to 15 it is the block's
abbrev pub FirstWords : Type 0
FirstWords = (M : List ℕ) (t : ℕ) → t < 16 → W M t ≡ word M t

-- from 16 on it comes from four words before it
abbrev pub LaterWords : Type 0
LaterWords =
    (M : List ℕ) (t : ℕ) → 16 ≤ t → t < 64 → W M t ≡ σ1 (W M (t - 2)) ⊞ W M (t - 7) ⊞ σ0 (W M (t - 15)) ⊞ W M (t - 16)

-- a digest is 32 bytes, each below 256
abbrev pub Of32Bytes : Type 0
Of32Bytes = (m : List ℕ) → (length (sha256 m) ≡ 32) × ((k : ℕ) → slice_index (sha256 m) k < 256)

-- sections 4.2.2 and 5.3.3: the first 64 primes are those below 312, and the first 8 those below 20; the constants
-- of the rounds are the first 32 bits of the fractions of their cube roots, and the initial hash value that of their square roots
abbrev pub RootedConstants : Type 0
RootedConstants =
    (length (primes_below 312) ≡ 64) × (all_rooted 3 (primes_below 312) K ≡ true)
    × (length (primes_below 20) ≡ 8) × (all_rooted 2 (primes_below 20) H₀ ≡ true)

-- the digests of the empty message, of three letters, and of a message of two blocks
abbrev pub Examples : Type 0
Examples =
    (sha256 [] ≡
    0xe3 ∷ 0xb0 ∷ 0xc4 ∷ 0x42 ∷ 0x98 ∷ 0xfc ∷ 0x1c ∷ 0x14 ∷ 0x9a ∷ 0xfb ∷ 0xf4 ∷ 0xc8 ∷ 0x99 ∷ 0x6f ∷ 0xb9 ∷ 0x24 ∷ 0x27 ∷ 0xae ∷ 0x41 ∷ 0xe4 ∷ 0x64 ∷ 0x9b ∷ 0x93 ∷ 0x4c ∷ 0xa4 ∷ 0x95 ∷ 0x99 ∷ 0x1b ∷ 0x78 ∷ 0x52 ∷ 0xb8 ∷ 0x55 ∷ [])
    × (sha256 (codes "abc") ≡
    0xba ∷ 0x78 ∷ 0x16 ∷ 0xbf ∷ 0x8f ∷ 0x01 ∷ 0xcf ∷ 0xea ∷ 0x41 ∷ 0x41 ∷ 0x40 ∷ 0xde ∷ 0x5d ∷ 0xae ∷ 0x22 ∷ 0x23 ∷ 0xb0 ∷ 0x03 ∷ 0x61 ∷ 0xa3 ∷ 0x96 ∷ 0x17 ∷ 0x7a ∷ 0x9c ∷ 0xb4 ∷ 0x10 ∷ 0xff ∷ 0x61 ∷ 0xf2 ∷ 0x00 ∷ 0x15 ∷ 0xad ∷ [])
    × (sha256 (codes "abcdbcdecdefdefgefghfghighijhijkijkljklmklmnlmnomnopnopq") ≡
    0x24 ∷ 0x8d ∷ 0x6a ∷ 0x61 ∷ 0xd2 ∷ 0x06 ∷ 0x38 ∷ 0xb8 ∷ 0xe5 ∷ 0xc0 ∷ 0x26 ∷ 0x93 ∷ 0x0c ∷ 0x3e ∷ 0x60 ∷ 0x39 ∷ 0xa3 ∷ 0x3c ∷ 0xe4 ∷ 0x59 ∷ 0x64 ∷ 0xff ∷ 0x21 ∷ 0x67 ∷ 0xf6 ∷ 0xec ∷ 0xed ∷ 0xd4 ∷ 0x19 ∷ 0xdb ∷ 0x06 ∷ 0xc1 ∷ [])
