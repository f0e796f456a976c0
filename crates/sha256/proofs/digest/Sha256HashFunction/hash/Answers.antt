use Rattle.sha256.specs.Hash.{sha256}
use Rattle.sha256.proofs.digest.Sha256HashFunction.hash.Goals as goal

pub returns : goal.returns
unfolding sha256
returns c = cc
