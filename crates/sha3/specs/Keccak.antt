-- KECCAK-f[1600] of FIPS 202, section 3, lane by lane.
-- Assumes nothing.
use Rattle.std.specs.Prelude.{ℕ, zero, suc, ◌+◌, ◌-◌, ◌*◌, ◌/◌, ◌%◌, ◌^◌, List, [], ◌∷◌, map, bit_and, bit_or, bit_xor, slice_index, slice_set}
use Rattle.std.specs.List.{range_with_len}

-- 3.1: a lane is a number below 2 ^ 64 whose bit z is the lane's bit z, and a state is the list of its 25 lanes
abbrev pub State : Type 0
State = List ℕ

-- 3.1.1: Lane(x, y) of a state
abbrev pub lane : State → ℕ → ℕ → ℕ
lane A x y = slice_index A (x + 5 * y)

-- the state whose Lane(x, y) is f x y
abbrev pub state : (ℕ → ℕ → ℕ) → State
state f = map (λ i. f (i % 5) (i / 5)) (range_with_len 0 25)

-- a lane whose bit z + n, modulo 64, is bit z of a
abbrev pub rotated : ℕ → ℕ → ℕ
rotated a n = bit_or ((a * 2 ^ (n % 64)) % 2 ^ 64) (a / 2 ^ ((64 - n % 64) % 64))

-- a lane with every bit turned over
abbrev pub flipped : ℕ → ℕ
flipped a = 2 ^ 64 - 1 - a

-- 3.2.1: C[x], the parity of the column x
abbrev pub parity : State → ℕ → ℕ
parity A x = bit_xor (bit_xor (bit_xor (bit_xor (lane A x 0) (lane A x 1)) (lane A x 2)) (lane A x 3)) (lane A x 4)

-- 3.2.1: D[x], what θ adds to the column x
abbrev pub effect : State → ℕ → ℕ
effect A x = bit_xor (parity A ((x + 4) % 5)) (rotated (parity A ((x + 1) % 5)) 1)

-- the five of them
unfoldable pub effects : State → List ℕ
effects A = map (effect A) (range_with_len 0 5)

-- 3.2.1
unfoldable pub θ : State → State
θ A = state (λ x y. bit_xor (lane A x y) (effect A x))

-- 3.2.2, table 2: the offsets of ρ, modulo 64
abbrev pub offsets : List ℕ
offsets =
    0 ∷ 1 ∷ 62 ∷ 28 ∷ 27 ∷ 36 ∷ 44 ∷ 6 ∷ 55 ∷ 20 ∷ 3 ∷ 10 ∷ 43 ∷ 25 ∷ 39 ∷ 41 ∷ 45 ∷ 15 ∷ 21 ∷ 8 ∷ 18 ∷ 2 ∷ 61 ∷ 56 ∷ 14 ∷ []

-- 3.2.2
unfoldable pub ρ : State → State
ρ A = state (λ x y. rotated (lane A x y) (lane offsets x y))

-- 3.2.3
unfoldable pub π : State → State
π A = state (λ x y. lane A ((x + 3 * y) % 5) x)

-- 3.2.4
unfoldable pub χ : State → State
χ A = state (λ x y. bit_xor (lane A x y) (bit_and (flipped (lane A ((x + 1) % 5) y)) (lane A ((x + 2) % 5) y)))

-- 3.2.5: the round constants RC
abbrev pub constants : List ℕ
constants =
    0x0000000000000001 ∷ 0x0000000000008082 ∷ 0x800000000000808A ∷ 0x8000000080008000 ∷ 0x000000000000808B ∷ 0x0000000080000001 ∷ 0x8000000080008081 ∷ 0x8000000000008009 ∷ 0x000000000000008A ∷ 0x0000000000000088 ∷ 0x0000000080008009 ∷ 0x000000008000000A ∷ 0x000000008000808B ∷ 0x800000000000008B ∷ 0x8000000000008089 ∷ 0x8000000000008003 ∷ 0x8000000000008002 ∷ 0x8000000000000080 ∷ 0x000000000000800A ∷ 0x800000008000000A ∷ 0x8000000080008081 ∷ 0x8000000000008080 ∷ 0x0000000080000001 ∷ 0x8000000080008008 ∷ []

-- 3.2.5
unfoldable pub ι : ℕ → State → State
ι i A = slice_set A 0 (bit_xor (lane A 0 0) (slice_index constants i))

-- 3.3: the round i
unfoldable pub Rnd : State → ℕ → State
Rnd A i = ι i (χ (π (ρ (θ A))))

-- the first n rounds
unfoldable pub rounds : ℕ → State → State
rounds zero A = A
rounds (suc n) A = Rnd (rounds n A) n

-- 3.4: 24 rounds
unfoldable pub keccak_f : State → State
keccak_f A = rounds 24 A
