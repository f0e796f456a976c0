use Rattle.std.proofs.Common.{◌-◌, sym, arith}
use Rattle.tree.proofs.Steps.{length_bound, length_none, length_left, length_right}
use Rattle.tree.proofs.length.+path_length.Goals as goal

pub returns-then-count-lt2 : goal.returns-then-count-lt2
returns-then-count-lt2 t c = sym (length_none c.args.number c.args.count c.if-count-lt2.true)

pub overflow_add-result : goal.overflow_add-result
overflow_add-result t c = omega (arith, length_bound 64 c.args.number c.split_point-k.result (omega arith))

pub overflow_add-result-else-number-k : goal.overflow_add-result-else-number-k
overflow_add-result-else-number-k t c =
    omega (arith, length_bound 64 (c.args.number - c.split_point-k.result) (c.args.count - c.split_point-k.result) (omega arith))

pub returns-then-number-k : goal.returns-then-number-k
returns-then-number-k t c =
    omega (arith, length_left c.split_point-k.result c.args.count c.split_point-k.ensures c.args.number c.if-number-k.true)

pub returns-else-number-k : goal.returns-else-number-k
returns-else-number-k t c =
    omega (arith, length_right c.split_point-k.result c.args.count c.split_point-k.ensures c.args.number c.if-number-k.false)
