-- What is proved of the definitions, in the words of FIPS 202.
-- Assumes nothing.
use Rattle.std.specs.Prelude.{◌≡◌, ℕ, ◌+◌, ◌*◌, ◌%◌, ◌<◌, ◌≤◌, [], ◌∷◌, ◌++◌, map, length, codes, All}
use Rattle.std.specs.List.{range_with_len}
use Rattle.sha3.specs.Keccak.{lane, θ, offsets, ρ, π, χ, constants}
use Rattle.sha3.specs.Rules.{at, ◌⊕◌, D, AtEachBit, walked, constant, bits, pad10*1, printed}
use Rattle.hash.specs.Hash.{Bytes}
use Rattle.sha3.specs.Sponge.{padded, sha3_256}

-- algorithm 1: A'[x, y, z] = A[x, y, z] ⊕ D[x, z]
abbrev pub ThetaByBits : Type 0
ThetaByBits = AtEachBit (λ A x y z. at (θ A) x y z ≡ at A x y z ⊕ D A x z)

-- algorithm 2: each bit moves along its lane by the lane's offset
abbrev pub RhoByBits : Type 0
RhoByBits = AtEachBit (λ A x y z. at (ρ A) x y ((z + lane offsets x y) % 64) ≡ at A x y z)

-- algorithm 3: A'[x, y, z] = A[x + 3y, x, z]
abbrev pub PiByBits : Type 0
PiByBits = AtEachBit (λ A x y z. at (π A) x y z ≡ at A ((x + 3 * y) % 5) x z)

-- algorithm 4: A'[x, y, z] = A[x, y, z] ⊕ ((A[x + 1, y, z] ⊕ 1) · A[x + 2, y, z])
abbrev pub ChiByBits : Type 0
ChiByBits = AtEachBit (λ A x y z. at (χ A) x y z ≡ at A x y z ⊕ (at A ((x + 1) % 5) y z ⊕ 1) * at A ((x + 2) % 5) y z)

-- the offsets of ρ are those of algorithm 2's walk
abbrev pub OffsetsByRule : Type 0
OffsetsByRule = offsets ≡ walked 24

-- the round constants are those of algorithms 5 and 6
abbrev pub ConstantsByRule : Type 0
ConstantsByRule = constants ≡ map (λ i. constant i 7) (range_with_len 0 24)

-- a padded message is whole blocks
abbrev pub WholeBlocks : Type 0
WholeBlocks = (m : Bytes) → length (padded m) % 136 ≡ 0

-- of the numbers of bytes above the message's that are whole blocks, it has the least
abbrev pub LeastPadding : Type 0
LeastPadding = (m : Bytes) (n : ℕ) → length m < n → n % 136 ≡ 0 → length (padded m) ≤ n

-- in bits, the padding is 01 and then pad10*1 for a rate of 1088 bits
abbrev pub PaddingBits : Type 0
PaddingBits = (m : Bytes) → bits (padded m) ≡ bits m ++ (0 ∷ 1 ∷ pad10*1 1088 (length (bits m) + 2))

-- a digest has 32 bytes
abbrev pub DigestLength : Type 0
DigestLength = (m : Bytes) → length (sha3_256 m) ≡ 32

-- each of them below 256
abbrev pub DigestBytes : Type 0
DigestBytes = (m : Bytes) → All (λ b. b < 256) (sha3_256 m)

-- the digest of the empty string
abbrev pub ExampleEmpty : Type 0
ExampleEmpty = sha3_256 [] ≡ printed 32 0xa7ffc6f8bf1ed76651c14756a061d662f580ff4de43b49fa82d80a4b80f8434a

-- the digest of "abc"
abbrev pub ExampleAbc : Type 0
ExampleAbc = sha3_256 (codes "abc") ≡ printed 32 0x3a985da74fe225b2045c172d6bd390bd855f086e3e9d525b46bfe24511431532
