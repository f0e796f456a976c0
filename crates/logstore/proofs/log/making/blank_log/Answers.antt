use Rattle.std.proofs.Common.{vec_items, refl, arith}
use Rattle.logstore.specs.Records.{stop}
use Rattle.logstore.proofs.Indexes.{blank_agrees}
use Rattle.logstore.proofs.log.making.blank_log.Goals as goal

pub invariant_of-result : goal.invariant_of-result
unfolding stop
invariant_of-result c = record { within = omega arith; whole = refl; agrees = blank_agrees (vec_items c.args.index.starts) c.requires }
