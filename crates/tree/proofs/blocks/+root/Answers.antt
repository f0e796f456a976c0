use Rattle.std.proofs.Common.{arith}
use Rattle.tree.proofs.Steps.{root_split, root_empty, root_single}
use Rattle.tree.proofs.blocks.+root.Goals as goal

pub returns-in-empty : goal.returns-in-empty
returns-in-empty g t c = root_empty g.D.HashFunction.meaning c.args.blocks.now _ (omega arith) c.empty_digest.ensures

pub returns-in-len1 : goal.returns-in-len1
returns-in-len1 g t c = root_single g.D.HashFunction.meaning c.args.blocks.now _ (omega arith) c.leaf_digest.ensures

pub returns-in_default : goal.returns-in_default
returns-in_default g t c =
    let split = root_split g.D.HashFunction.meaning c.split_point.result c.args.blocks.now c.split_point.ensures in
    let front = c.split_at.ensures.front in
    let back = c.split_at.ensures.back in
    cc
