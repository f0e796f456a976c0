use Rattle.std.proofs.Common.{◌-◌, ◌*◌, length, ◌∙◌, ap, arith}
use Rattle.sha256.specs.Hash.{compress}
use Rattle.sha256.proofs.Pads.{whole_first, whole_second}
use Rattle.sha256.proofs.message.Padded.absorb.Goals as goal

pub returns-in-Some : goal.returns-in-Some
returns-in-Some c =
    c.compress.ensures
    ∙ ap (compress c.args.hash)
    (c.in-Some.ensures.1
    ∙ whole_first c.self.inside.message.first.now c.self.inside.message.second.now c.args.self.now c.self.view_is (64 * c.args.i) c.in-Some.ensures.0)

pub returns : goal.returns
returns c =
    let first = c.self.inside.message.first.now in
    c.compress-2.ensures
    ∙ ap (compress c.args.hash)
    (c.in-Some-whole.ensures.1
    ∙ whole_second first c.self.inside.message.second.now c.args.self.now c.self.view_is (64 * c.args.i) (64 * c.args.i - length first) (omega arith) c.in-Some-whole.ensures.0)
