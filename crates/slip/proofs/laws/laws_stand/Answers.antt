use Rattle.std.proofs.Common.{refl, arith}
use Rattle.tree.specs.Tree.{path_length_at}
use Rattle.slip.specs.Laws.{SlipLengths}
use Rattle.slip.proofs.Accepted.{accepted}
use Rattle.slip.proofs.Exactly.{accepts}
use Rattle.slip.proofs.Reading.{short_path}
use Rattle.slip.proofs.Truth.{true_is_accepted}
use Rattle.slip.proofs.Written.{written_is_read}
use Rattle.slip.proofs.laws.laws_stand.Goals as goal

lengths : SlipLengths
unfolding path_length_at
lengths = (refl, refl, λ i n h. omega (arith, short_path i n h))

pub returns : goal.returns
returns c = record { accepts = accepts; accepted = accepted; written = written_is_read; true_accepted = true_is_accepted; lengths = lengths }
