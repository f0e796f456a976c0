use Rattle.std.proofs.Common.{rules}
use Rattle.seal.proofs.Seals.{form_is}
use Rattle.seal.proofs.seal.Seal.parse.Goals as goal

pub returns : goal.returns
returns c = let form = form_is c.args.bytes.now c.fields.result c.fields.ensures in search rules
