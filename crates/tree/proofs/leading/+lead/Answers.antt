use Rattle.std.proofs.Common.{suc, arith}
use Rattle.std.proofs.lemmas.List.{take_rest}
use Rattle.tree.proofs.Steps.{from_none, from_one, from_right, from_left, from_carried}
use Rattle.tree.specs.Tree.{turns}
use Rattle.tree.proofs.leading.+lead.Goals as goal

pub returns-in_default : goal.returns-in_default
returns-in_default g t c =
    from_none g.D.HashFunction.meaning c.args.below (turns c.args.number (suc c.args.last)) c.args.path.now (omega arith)

pub returns-then-last-eq0 : goal.returns-then-last-eq0
returns-then-last-eq0 g t c =
    from_one g.D.HashFunction.meaning c.args.below c.args.number c.args.last c.args.path.now c.if-last-eq0.true

pub returns-then-number-eq1 : goal.returns-then-number-eq1
returns-then-number-eq1 g t c =
    from_right g.D.HashFunction.meaning c.args.below c.node_digest-above.result c.lead.result c.args.number c.args.last c.args.path.now c.requires
    (omega arith) c.if-number-eq1.true c.node_digest-above.ensures (rw take_rest at c.lead.ensures)

pub returns-then-number-last : goal.returns-then-number-last
returns-then-number-last g t c =
    let above = c.node_digest-above-then-number-last in
    from_left g.D.HashFunction.meaning c.args.below above.result c.lead-then-number-last.result c.args.number c.args.last c.args.path.now c.requires
    (omega arith) (omega arith) c.if-number-last.true above.ensures (rw take_rest at c.lead-then-number-last.ensures)

pub returns : goal.returns
returns g t c =
    from_carried g.D.HashFunction.meaning c.args.below c.args.below c.lead-2.result c.args.number c.args.last c.args.path.now c.requires
    (omega arith) c.if-number-last.false c.lead-2.ensures
