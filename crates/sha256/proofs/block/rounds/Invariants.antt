use Rattle.std.proofs.Common.{◌+◌, ◌*◌}
use Rattle.sha256.proofs.Schedules.{At, Goes}
use Rattle.sha256.proofs.block.rounds.Given as goal

abbrev pub invariant-loop-j : goal.invariant-loop-j
invariant-loop-j l = Goes l.initial.w l.initial.v (16 * l.i) (16 * l.i) l.w l.v (16 * l.i + l.j) (16 * l.i + l.j)

abbrev pub invariant-loop-j-2 : goal.invariant-loop-j-2
invariant-loop-j-2 l =
    Goes l.initial.w l.initial.v (16 * l.i + 8) (16 * l.i + 8) l.w l.v (16 * l.i + l.j) (16 * l.i + l.j)

abbrev pub invariant-loop-i : goal.invariant-loop-i
invariant-loop-i l = At l.initial.v l.initial.w l.w l.v (16 * l.i) (16 * l.i)

abbrev pub invariant-loop-j-3 : goal.invariant-loop-j-3
invariant-loop-j-3 l = Goes l.w l.initial.v 48 (8 * l.i) l.w l.v 48 (8 * l.i + l.j)

abbrev pub invariant-loop-i-2 : goal.invariant-loop-i-2
invariant-loop-i-2 l = Goes l.w l.initial.v 48 48 l.w l.v 48 (8 * l.i)
