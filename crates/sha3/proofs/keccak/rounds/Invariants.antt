use Rattle.std.proofs.Common.{◌≡◌}
use Rattle.sha3.specs.Keccak.{rounds}
use Rattle.sha3.specs.Rows.{lanes, IsSquare}
use Rattle.sha3.proofs.keccak.rounds.Given as goal

abbrev pub invariant-loop-constant : goal.invariant-loop-constant
invariant-loop-constant l = record { same : lanes l.a ≡ rounds l.constant-index (lanes l.initial.a); square : IsSquare l.a }
