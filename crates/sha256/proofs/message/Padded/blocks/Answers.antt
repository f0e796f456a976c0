use Rattle.std.proofs.Common.{◌+◌, length, ap, arith}
use Rattle.sha256.proofs.Pads.{blocks_pad}
use Rattle.sha256.proofs.message.Padded.blocks.Goals as goal

pub returns : goal.returns
returns c =
    let l = ap length c.self.view_is in
    let e = blocks_pad c.args.self.now (c.len.result + 1 + 8) (omega arith) in
    omega arith
