use Rattle.std.proofs.Common.{◌≡◌, ◌+◌, ◌-◌, length, ap, ◌∙◌, arith}
use Rattle.store.specs.Bytes.{overwritten}
use Rattle.store.proofs.Overwrites.{part_overwritten, overwritten_twice}
use Rattle.logstore.specs.Records.{header}
use Rattle.logstore.proofs.Walks.{header_length_lem}
use Rattle.logstore.proofs.record.write_record.Goals as goal

pub returns : goal.returns
returns c =
    let p = c.args.place in
    let out = c.args.out.now in
    let r = c.args.content.now in
    let next = c.args.at + c.header_length.result in
    let starts : next ≡ c.args.at + length (header p) = omega (arith, header_length_lem p, c.header_length.ensures) in
    part_overwritten c.write_header.new.out c.copy_from_slice.new.self r next (next + length r - next) (omega arith) c.copy_from_slice.ensures.after
    ∙ ap (λ z. overwritten z next r) c.write_header.ensures
    ∙ overwritten_twice out (header p) r c.args.at next starts (omega (arith, c.requires.fits, c.requires.long, c.header_length.ensures))
