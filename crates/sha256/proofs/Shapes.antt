-- The laws of specs/Laws.antt, but for those of the message schedule.
-- Assumes nothing.
use Rattle.std.specs.Prelude.{refl}
use Rattle.std.proofs.Common.{arith}
use Rattle.sha256.specs.Padding.{pad}
use Rattle.sha256.specs.Hash.{words, next, expand, round, rounds, compress, intermediate, final, bytes, sha256}
use Rattle.sha256.specs.Laws.{Examples, LeastZeros, RootedConstants, WholeBlocks}
use Rattle.sha256.proofs.Pads.{length-pad}

pub least_zeros : LeastZeros
least_zeros n = (omega arith, λ k h. omega arith)

pub whole_blocks : WholeBlocks
whole_blocks m = omega (arith, length-pad m)

pub rooted_constants : RootedConstants
rooted_constants = (refl, refl, refl, refl)

pub examples : Examples
unfolding pad words expand next round rounds compress intermediate final bytes sha256
examples = (refl, refl, refl)
