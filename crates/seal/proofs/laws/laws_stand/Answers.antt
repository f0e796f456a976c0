use Rattle.seal.proofs.Written.{written_is_read}
use Rattle.seal.proofs.laws.laws_stand.Goals as goal

pub returns : goal.returns
returns c = written_is_read
