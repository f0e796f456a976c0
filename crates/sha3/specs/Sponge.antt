-- SHA3-256 of FIPS 202, sections 4 to 6, on strings of whole bytes, as its appendix B has them.
-- Assumes nothing.
use Rattle.std.specs.Prelude.{ℕ, zero, suc, ◌+◌, ◌-◌, ◌*◌, ◌/◌, ◌%◌, ◌^◌, [], ◌∷◌, ◌++◌, map, length, take, drop, replicate, bit_xor, slice_index}
use Rattle.std.specs.List.{range_with_len, flat_map}
use Rattle.hash.specs.Hash.{Bytes}
use Rattle.sha3.specs.Keccak.{State, keccak_f}

-- 3.1.2 and B.1: the lane of the eight bytes of B from i on, the lowest first
abbrev pub word : Bytes → ℕ → ℕ
word B i =
    slice_index B i + slice_index B (i + 1) * 2 ^ 8 + slice_index B (i + 2) * 2 ^ 16 + slice_index B (i + 3) * 2 ^ 24
    + slice_index B (i + 4) * 2 ^ 32
    + slice_index B (i + 5) * 2 ^ 40
    + slice_index B (i + 6) * 2 ^ 48
    + slice_index B (i + 7) * 2 ^ 56

-- 3.1.3 and B.1: the eight bytes of a lane
abbrev pub bytes : ℕ → Bytes
bytes a =
    (a % 256) ∷ (a / 2 ^ 8 % 256) ∷ (a / 2 ^ 16 % 256) ∷ (a / 2 ^ 24 % 256) ∷ (a / 2 ^ 32 % 256) ∷ (a / 2 ^ 40 % 256) ∷ (a / 2 ^ 48 % 256) ∷ (a / 2 ^ 56 % 256) ∷ []

-- 4: a block B of 136 bytes, the rate, is added to the first 17 lanes, and the capacity stays
unfoldable pub xored : State → Bytes → State
xored A B = map (λ i. bit_xor (slice_index A i) (word B (8 * i))) (range_with_len 0 17) ++ drop 17 A

-- 4: the state after n blocks of m
unfoldable pub absorbed : ℕ → State → Bytes → State
absorbed zero A m = A
absorbed (suc n) A m = absorbed n (keccak_f (xored A (take 136 m))) (drop 136 m)

-- 4: the first 32 bytes of the state
unfoldable pub squeezed : State → Bytes
squeezed A = take 32 (flat_map bytes A)

-- B.2: the bits 01 and then pad10*1, in n + 1 bytes
abbrev pub padding : ℕ → Bytes
padding zero = 0x86 ∷ []
padding (suc n) = 0x06 ∷ (replicate n 0 ++ 0x80 ∷ [])

-- a message with its padding, up to the end of a block
unfoldable pub padded : Bytes → Bytes
padded m = m ++ padding (135 - length m % 136)

-- 4: the sponge from the state A on, where m is all that is still to come
unfoldable pub sponge : State → Bytes → Bytes
sponge A m = squeezed (absorbed (length m / 136 + 1) A (padded m))

-- 6.1: the digest of m
abbrev pub sha3_256 : Bytes → Bytes
sha3_256 m = sponge (replicate 25 0) m
