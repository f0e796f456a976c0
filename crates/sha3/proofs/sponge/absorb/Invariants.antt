use Rattle.std.proofs.Common.{◌≡◌, ℕ, ◌*◌, List, ◌++◌, drop}
use Rattle.sha3.specs.Sponge.{sponge}
use Rattle.sha3.proofs.sponge.absorb.Given as goal

abbrev pub invariant-loop-block : goal.invariant-loop-block
invariant-loop-block l = (m : List ℕ) → sponge l.lanes (drop (l.block-index * 136) l.bytes ++ m) ≡ sponge l.initial.lanes (l.bytes ++ m)
