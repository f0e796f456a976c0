use Rattle.std.proofs.Common.{◌≡◌, ◌<◌, [], ◌∷◌, get_or, ◌∙◌, ap, arith}
use Rattle.slip.specs.Slip.{path_bytes, slip_under}
use Rattle.slip.proofs.Reading.{short_path}
use Rattle.slip.proofs.Writes.{wrote}
use Rattle.slip.proofs.writing.write_slip.Goals as goal
use Rattle.slip.proofs.writing.write_slip.Goals.{After-path_bytes}

-- the path is as long as its form wants it, which is at most 384 bytes
long : (c : After-path_bytes) → c.path_bytes.result ≡ path_bytes c.args.number.0 c.args.seal.now.count
long c = c.path_bytes.ensures ∙ ap (path_bytes c.args.number.0) c.count-2.ensures.value

pub overflow_cast-path : goal.overflow_cast-path
overflow_cast-path c =
    let few = short_path c.args.number.0 c.count-2.result c.count-2.ensures.few in
    omega (arith, c.path_bytes.ensures, few)

pub returns-clause-out : goal.returns-clause-out
returns-clause-out c =
    let x = slip_under c.args.seal.now c.args.number.0 c.args.block.now c.args.path.now in
    let size = c.if-path-path_bytes.false ∙ long (goal.at.returns-clause-out c).After-path_bytes in
    let below : c.args.number.0 < c.args.seal.now.count = omega arith in
    let tag = 6 ∷ get_or c.to_be_bytes.result 0 0 ∷ get_or c.to_be_bytes.result 1 0 ∷ [] in
    wrote x c.args.out.now c.if-block-ne-BLOCK_LENGTH.false below size c.if-out-end.false
    c.write_at.new.out c.write_at-2.new.out c.write_at-3.new.out c.write_at-4.new.out c.head.result tag c.head.ensures (rw c.to_be_bytes.ensures)
    c.write_at.ensures c.write_at-2.ensures c.write_at-3.ensures c.write_at-4.ensures
