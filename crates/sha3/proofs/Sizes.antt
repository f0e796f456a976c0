-- A digest has 32 bytes, each below 256.
-- Assumes nothing.
use Rattle.std.specs.Prelude.{ℕ, ◌+◌, ◌/◌, ◌%◌, ◌<◌, List, [], ◌∷◌, length, replicate, All}
use Rattle.std.proofs.Common.{mod-lt, lit<}
use Rattle.std.specs.List.{flat_map}
use Rattle.std.proofs.lemmas.List.Elements.{All-nil, All-append, All-take, All-from_recursion}
use Rattle.sha3.specs.Laws.{DigestBytes}
use Rattle.sha3.specs.Sponge.{bytes, absorbed, squeezed, padded, sponge}

byte : (n : ℕ) → n % 256 < 256
byte n = mod-lt n (lit< tt)

all_bytes : (A : List ℕ) → All (λ b. b < 256) (flat_map bytes A)
all_bytes [] = All-nil (λ b. b < 256)
all_bytes (a ∷ A) =
    All-append (λ b. b < 256) (bytes a) (flat_map bytes A)
    (All-from_recursion (λ b. b < 256) (bytes a) (byte _, (byte _, (byte _, (byte _, (byte _, (byte _, (byte _, (byte _, tt)))))))))
    (all_bytes A)

pub digest_bytes : DigestBytes
unfolding sponge squeezed
digest_bytes m =
    let A = absorbed (length m / 136 + 1) (replicate 25 0) (padded m) in
    All-take (λ b. b < 256) 32 (flat_map bytes A) (all_bytes A)
