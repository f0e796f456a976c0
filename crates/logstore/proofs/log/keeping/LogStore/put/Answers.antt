use Rattle.std.proofs.Common.{◌+◌, length, vec_items, arith}
use Rattle.logstore.proofs.Stores.{Wrote, wrote}
use Rattle.logstore.proofs.log.keeping.LogStore.put.Goals as goal
use Rattle.logstore.proofs.log.keeping.LogStore.put.Goals.{After-header_length}

-- what was written and noted
written : (c : goal.After-header_length) → Wrote c.args.self.now c.args.place c.args.record.now c.write_record.new.out (vec_items c.note.new.self.starts) (c.args.self.now.used + c.header_length.result + length c.args.record.now)
written c = wrote c.args.self.now c.args.place c.args.record.now c.as_mut_slice.result.now c.write_record.new.out (vec_items c.note.new.self.starts) c.header_length.result c.in_ok-admit.ensures (omega arith) c.as_mut_slice.ensures.value c.write_record.ensures c.note.ensures c.header_length.ensures

pub invariant_of-self : goal.invariant_of-self
invariant_of-self c = let w = written c in record { within = w.within; whole = w.whole; agrees = w.agrees }

pub returns : goal.returns
returns c = let w = written (goal.at.returns c).After-header_length in record { told = λ _. w.kept; does = (w.bytes, w.grows) }
