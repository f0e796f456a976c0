use Rattle.std.proofs.Common.{◌-◌, arith}
use Rattle.flat.proofs.Stores.{put_bytes, put_told}
use Rattle.flat.proofs.flat.keeping.FlatStore.put.Goals as goal

pub returns : goal.returns
returns c =
    let f = c.args.self.now in
    let r = c.args.record.now in
    let part = c.in_ok-part.part in
    let lies = c.in_ok-part.ensures in
    let bytes = put_bytes f c.args.place r c.deref_mut.result.now c.copy_from_slice.new.self part.start (part.end - part.start) lies.0 lies.1 (omega (arith, lies.2)) c.deref_mut.ensures.value c.copy_from_slice.ensures.after in
    record { told = λ _. put_told f c.args.place r _ lies.0 bytes; does = bytes }
