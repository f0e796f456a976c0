-- The rules of FIPS 202 behind the steps, the tables and the padding.
-- Assumes nothing.
use Rattle.std.specs.Prelude.{ℕ, zero, suc, ◌+◌, ◌-◌, ◌*◌, ◌/◌, ◌%◌, ◌^◌, ◌<◌, List, [], ◌∷◌, ◌++◌, map, replicate, bit_xor, slice_index, slice_set}
use Rattle.std.specs.List.{range_with_len, flat_map}
use Rattle.sha3.specs.Keccak.{State, lane}

-- bit z of a lane or of a byte
abbrev pub bit : ℕ → ℕ → ℕ
bit a z = a / 2 ^ z % 2

-- 3.1: the bit A[x, y, z]
abbrev pub at : State → ℕ → ℕ → ℕ → ℕ
at A x y z = bit (lane A x y) z

-- the sum of two bits
infixl 65 ◌⊕◌
abbrev pub ◌⊕◌ : ℕ → ℕ → ℕ
a ⊕ b = (a + b) % 2

-- algorithm 1: C[x, z]
abbrev pub C : State → ℕ → ℕ → ℕ
C A x z = at A x 0 z ⊕ at A x 1 z ⊕ at A x 2 z ⊕ at A x 3 z ⊕ at A x 4 z

-- algorithm 1: D[x, z], from C[x - 1, z] and C[x + 1, z - 1]
abbrev pub D : State → ℕ → ℕ → ℕ
D A x z = C A ((x + 4) % 5) z ⊕ C A ((x + 1) % 5) ((z + 63) % 64)

-- e holds at each bit of each state whose lanes are below 2 ^ 64
abbrev pub AtEachBit : (State → ℕ → ℕ → ℕ → Type 0) → Type 0
AtEachBit e = (A : State) → ((i : ℕ) → slice_index A i < 2 ^ 64) → (x y z : ℕ) → x < 5 → y < 5 → z < 64 → e A x y z

-- algorithm 2: the place x, y that its walk is at, for each t
unfoldable pub place : ℕ → ℕ × ℕ
place zero = (1, 0)
place (suc t) = ((place t).1, (2 * (place t).0 + 3 * (place t).1) % 5)

-- algorithm 2: the offsets modulo 64 that its first t steps give
unfoldable pub walked : ℕ → List ℕ
walked zero = replicate 25 0
walked (suc t) = slice_set (walked t) ((place t).0 + 5 * (place t).1) ((t + 1) * (t + 2) / 2 % 64)

-- algorithm 5: R after t steps, as a number whose bit j is R[j]; the ninth bit goes back into the bits 0, 4, 5 and 6
unfoldable pub register : ℕ → ℕ
register zero = 1
register (suc t) = bit_xor (2 * register t) (2 * register t / 2 ^ 8 * 0b1_0111_0001)

-- algorithm 5: rc(t)
unfoldable pub rc : ℕ → ℕ
rc t = register (t % 255) % 2

-- algorithm 6: RC of the round i, with its first n bits: bit 2 ^ j - 1 is rc(j + 7i)
unfoldable pub constant : ℕ → ℕ → ℕ
constant i zero = 0
constant i (suc j) = constant i j + rc (j + 7 * i) * 2 ^ (2 ^ j - 1)

-- B.1, algorithm 10: the eight bits of a byte, the lowest first
abbrev pub octet : ℕ → List ℕ
octet b = map (bit b) (range_with_len 0 8)

-- the bits of a string of bytes
abbrev pub bits : List ℕ → List ℕ
bits m = flat_map octet m

-- 5.1, algorithm 9: pad10*1(x, m), with j = (-m - 2) mod x zeros
abbrev pub pad10*1 : ℕ → ℕ → List ℕ
pad10*1 x m = 1 ∷ (replicate ((x - (m + 2) % x) % x) 0 ++ 1 ∷ [])

-- the n bytes of a number, the highest first, as a digest is printed
unfoldable pub printed : ℕ → ℕ → List ℕ
printed zero v = []
printed (suc n) v = (v / 256 ^ n % 256) ∷ printed n v
