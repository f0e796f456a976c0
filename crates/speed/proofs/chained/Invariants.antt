use Rattle.std.proofs.Common.{◌≡◌, length}
use Rattle.speed.specs.Chain.{chain}
use Rattle.speed.proofs.chained.Given as goal

abbrev pub invariant-loop : goal.invariant-loop
invariant-loop g l = (l.last ≡ chain g.D.HashFunction.meaning l.part l.counter) × (length l.last ≡ 32)
