-- A chain of digests.
-- Assumes nothing.
use Rattle.std.specs.Prelude.{ℕ, zero, suc, List, ◌++◌, replicate}

-- 32 zeros, then n times the digest of the part and the digest before
unfoldable pub chain : (List ℕ → List ℕ) → List ℕ → ℕ → List ℕ
chain d part zero = replicate 32 0
chain d part (suc n) = d (part ++ chain d part n)
