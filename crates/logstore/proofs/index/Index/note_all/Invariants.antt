use Rattle.std.proofs.Common.{◌≡◌, ℕ, vec_items}
use Rattle.fields.specs.Fields.{from}
use Rattle.logstore.proofs.Indexes.{Noted}
use Rattle.logstore.proofs.index.Index.note_all.Given as goal

-- the records before the stop are noted, and the reading stands there
abbrev pub invariant-loop-place : goal.invariant-loop-place
invariant-loop-place l = record { reading : l.place-iterator.reader ≡ from l.bytes l.stop; noted : (f : ℕ) × Noted l.bytes (vec_items l.self.starts) l.stop f }
