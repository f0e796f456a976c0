use Rattle.seal.proofs.Seals.{under_kept}
use Rattle.seal.proofs.seal.Seal.read.Goals as goal

pub returns : goal.returns
returns g c =
    under_kept g.D.HashFunction.meaning g.D.HashFunction.KIND c.args.bytes.now c.in_ok-parse.field-0 _ c.in_ok-parse.ensures c.kept.ensures
