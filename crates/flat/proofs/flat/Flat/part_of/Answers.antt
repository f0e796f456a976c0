use Rattle.std.proofs.Common.{refl, arith}
use Rattle.flat.proofs.Stores.{fitted}
use Rattle.flat.proofs.flat.Flat.part_of.Goals as goal

pub overflow_add-result : goal.overflow_add-result
overflow_add-result c = omega (arith, (fitted c.args.self.now c.args.place c.args.length c.in_ok-admit.ensures).ends, c.args.self.now.bytes.small)

pub returns : goal.returns
returns c =
    let fit = fitted c.args.self.now c.args.place c.args.length c.in_ok-admit.ensures in
    (c.in_ok-admit.ensures, c.offset_of-start.ensures, refl, omega (arith, fit.ends, c.offset_of-start.ensures))
