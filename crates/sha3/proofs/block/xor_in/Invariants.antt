use Rattle.std.proofs.Common.{◌≡◌, ◌++◌, map, drop}
use Rattle.std.specs.List.{range_with_len}
use Rattle.sha3.proofs.Lists.{lane_with}
use Rattle.sha3.proofs.block.xor_in.Given as goal

abbrev pub invariant-loop-i : goal.invariant-loop-i
invariant-loop-i l = l.lanes ≡ map (lane_with l.initial.lanes l.block) (range_with_len 0 l.i) ++ drop l.i l.initial.lanes
