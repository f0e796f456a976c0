use Rattle.std.proofs.Common.{◌*◌, length, ap, ◌∙◌}
use Rattle.sha256.proofs.Lays.{laid_block}
use Rattle.sha256.proofs.message.Padded.mixed.Goals as goal

pub returns : goal.returns
returns c =
    laid_block c.self.inside.message.first.now c.self.inside.message.second.now c.args.self.now (64 * c.args.i) c.len-len.result (64 * c.blocks-2.result)
    c.to_be_bytes-bits.result c.lay.new.block c.lay-2.new.block c.lay-3.new.block c.lay-4.new.block c.self.view_is
    c.requires (c.len-len.ensures ∙ ap length c.self.view_is) c.blocks-2.ensures c.to_be_bytes-bits.ensures c.lay-4.array_long
    c.lay.ensures c.lay-2.ensures c.lay-3.ensures c.lay-4.ensures
