use Rattle.std.proofs.Common.{◌≡◌, ◌*◌, ap, ◌∙◌, arith}
use Rattle.sha256.specs.Hash.{rounds, schedule}
use Rattle.sha256.proofs.Schedules.{at_first, at_same, step_more, turn_more}
use Rattle.sha256.proofs.block.rounds.Goals as goal

pub loop-i-init : goal.loop-i-init
loop-i-init c = at_first c.args.hash c.args.words (omega arith)

pub loop-j-init : goal.loop-j-init
loop-j-init c H ws a = at_same a (omega arith) (omega arith)

pub loop-j-preserved : goal.loop-j-preserved
loop-j-preserved c H ws a =
    at_same (turn_more (c.loop-j.invariant H ws a) (omega arith) c.turn.ensures.variables c.turn.ensures.words)
    (omega arith) (omega arith)

pub loop-j-2-init : goal.loop-j-2-init
loop-j-2-init c H ws a = a

pub loop-j-2-preserved : goal.loop-j-2-preserved
loop-j-2-preserved c H ws a =
    at_same
    (turn_more (c.loop-j-2.invariant H ws a) (omega arith) c.turn-in-loop-j-2.ensures.variables c.turn-in-loop-j-2.ensures.words)
    (omega arith) (omega arith)

pub loop-i-preserved : goal.loop-i-preserved
loop-i-preserved c =
    let a = c.loop-j.invariant c.args.hash c.args.words c.loop-i.invariant in
    at_same (c.loop-j-2.invariant c.args.hash c.args.words (at_same a (omega arith) (omega arith)))
    (omega arith) (omega arith)

pub loop-i-2-init : goal.loop-i-2-init
loop-i-2-init c H ws a = a

pub loop-j-3-init : goal.loop-j-3-init
loop-j-3-init c H ws a = at_same a (omega arith) (omega arith)

pub loop-j-3-preserved : goal.loop-j-3-preserved
loop-j-3-preserved c H ws a =
    at_same (step_more (c.loop-j-3.invariant H ws a) (omega arith) (omega arith) c.step.ensures) (omega arith) (omega arith)

pub loop-i-2-preserved : goal.loop-i-2-preserved
loop-i-2-preserved c H ws a =
    at_same (c.loop-j-3.invariant H ws (c.loop-i-2.invariant H ws a)) (omega arith) (omega arith)

pub returns : goal.returns
returns c =
    let e : 8 * c.loop-i-2.i ≡ 64 = omega arith in
    let a = at_same c.loop-i.invariant (omega arith) (omega arith) in
    (c.loop-i-2.invariant c.args.hash c.args.words a).variables ∙ ap (rounds c.args.hash (schedule c.args.words)) e
