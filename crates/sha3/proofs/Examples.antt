-- The tables and the digests that antt computes from the definitions.
-- Assumes nothing.
use Rattle.std.proofs.Common.{refl}
use Rattle.sha3.specs.Keccak.{θ, ρ, π, χ, ι, Rnd, rounds, keccak_f}
use Rattle.sha3.specs.Laws.{OffsetsByRule, ConstantsByRule, ExampleEmpty, ExampleAbc}
use Rattle.sha3.specs.Rules.{place, walked, register, rc, constant, printed}
use Rattle.sha3.specs.Sponge.{xored, padded, absorbed, squeezed, sponge}

pub offsets_are : OffsetsByRule
unfolding place walked
offsets_are = refl

pub constants_are : ConstantsByRule
unfolding register rc constant
constants_are = refl

pub empty : ExampleEmpty
unfolding θ ρ π χ ι Rnd rounds keccak_f xored padded absorbed squeezed sponge printed
empty = refl

pub abc : ExampleAbc
unfolding θ ρ π χ ι Rnd rounds keccak_f xored padded absorbed squeezed sponge printed
abc = refl
