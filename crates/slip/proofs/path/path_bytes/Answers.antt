use Rattle.std.proofs.Common.{arith}
use Rattle.tree.proofs.Steps.{length_bound}
use Rattle.slip.proofs.path.path_bytes.Goals as goal

-- a count of 32 bits has a path of at most 32 digests
pub overflow_mul-result : goal.overflow_mul-result
overflow_mul-result c = omega (arith, c.path_length.ensures, length_bound 32 c.args.number c.args.count (omega arith))
