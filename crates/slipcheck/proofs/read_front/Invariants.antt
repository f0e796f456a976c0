use Rattle.std.proofs.Common.{◌-◌, ◌≤◌, length, take}
use Rattle.std.specs.Io.KnownBytes.{Consumes}
use Rattle.slipcheck.proofs.read_front.Given as goal

-- what is held is what the source gave so far
abbrev pub invariant-loop-held : goal.invariant-loop-held
invariant-loop-held g l = (l.held ≤ length l.out) × Consumes (g.R.Read.remaining l.initial.source) (g.R.Read.remaining l.source) (take l.held l.out)

abbrev pub decreases-loop-held : goal.decreases-loop-held
decreases-loop-held g l = length l.initial.out - l.held
