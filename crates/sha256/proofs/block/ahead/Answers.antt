use Rattle.sha256.specs.Ring.{ahead}
use Rattle.sha256.proofs.block.ahead.Goals as goal

pub returns : goal.returns
unfolding ahead
returns c = cc
