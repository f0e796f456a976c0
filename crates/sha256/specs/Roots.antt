-- FIPS 180-4, sections 4.2.2 and 5.3.3: the rule that the constants come from, as tests that compute.
-- Assumes nothing.
use Rattle.std.specs.Prelude.{ℕ, zero, suc, ◌+◌, ◌-◌, ◌*◌, ◌%◌, ◌^◌, Bool, true, false, cond, List, [], ◌∷◌, ◌++◌, ◌==◌, nat_le, nat_lt}

-- none of the k numbers from 2 on divides n
abbrev pub undivided : ℕ → ℕ → Bool
undivided n zero = true
undivided n (suc k) = cond (n % (k + 2) == 0) false (undivided n k)

-- n is a prime: it is past 1, and no number from 2 to n - 1 divides it
abbrev pub prime : ℕ → Bool
prime n = cond (nat_lt 1 n) (undivided n (n - 2)) false

-- the primes below n, in order
abbrev pub primes_below : ℕ → List ℕ
primes_below zero = []
primes_below (suc n) = primes_below n ++ cond (prime n) (n ∷ []) []

-- a + x / 2 ^ 32 is the e-th root of p, but for what is less than 1 / 2 ^ 32
abbrev pub is_root : ℕ → ℕ → ℕ → ℕ → Bool
is_root e p x a =
    cond (nat_le ((2 ^ 32 * a + x) ^ e) (p * 2 ^ (32 * e))) (nat_lt (p * 2 ^ (32 * e)) ((2 ^ 32 * a + x + 1) ^ e)) false

-- so it is with some whole part a below n
abbrev pub root_below : ℕ → ℕ → ℕ → ℕ → Bool
root_below e p x zero = false
root_below e p x (suc a) = cond (is_root e p x a) true (root_below e p x a)

-- x is the first 32 bits of the fraction of the e-th root of p, which is below p
abbrev pub rooted : ℕ → ℕ → ℕ → Bool
rooted e p x = cond (nat_lt x (2 ^ 32)) (root_below e p x p) false

-- as many numbers as words, and each word is so of its number
abbrev pub all_rooted : ℕ → List ℕ → List ℕ → Bool
all_rooted e [] [] = true
all_rooted e [] (x ∷ xs) = false
all_rooted e (p ∷ ps) [] = false
all_rooted e (p ∷ ps) (x ∷ xs) = cond (rooted e p x) (all_rooted e ps xs) false
