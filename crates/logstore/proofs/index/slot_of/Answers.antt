use Rattle.std.proofs.Common.{arith}
use Rattle.logstore.proofs.Slots.{place_low}
use Rattle.logstore.proofs.index.slot_of.Goals as goal

pub overflow_sub-first : goal.overflow_sub-first
overflow_sub-first c = omega (arith, (place_low c.args.place c.in-Node.level c.in-Node.number c.in-Node.is c.requires).0)
