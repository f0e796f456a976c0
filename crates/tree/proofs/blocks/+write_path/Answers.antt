use Rattle.std.proofs.Common.{◌≡◌, ◌-◌, ◌<◌, ◌≤◌, List, ◌++◌, length, sym, ap, arith, rules}
use Rattle.hash.specs.Hash.{Bytes}
use Rattle.tree.specs.Tree.{path_length}
use Rattle.tree.proofs.Steps.{length_none, length_left, length_right, path_single, split_within, path_split_left, path_split_right, wrote}
use Rattle.tree.proofs.blocks.+write_path.Goals as goal

pub returns-then-blocks-lt2 : goal.returns-then-blocks-lt2
returns-then-blocks-lt2 g t c =
    record {
      long = sym (length_none c.args.number (length c.args.blocks.now) c.if-blocks-lt2.true);
      out = ap (λ (ps : List Bytes). ps ++ c.args.out.now) (sym (path_single g.D.HashFunction.meaning c.args.number c.args.blocks.now c.if-blocks-lt2.true));
    }

pub write_path-below-requires : goal.write_path-below-requires
write_path-below-requires g t c κs within =
    let s = split_within c.split_point.result (length c.args.blocks.now) c.split_point.ensures in
    let front : length c.split_at.result.0.now ≡ c.split_point.result = c.split_at.ensures.front_len in
    let l = length_left c.split_point.result (length c.args.blocks.now) c.split_point.ensures c.args.number (rw front at c.if-number-first.true) in
    let short : path_length c.args.number (length c.split_at.result.0.now) ≤ length c.args.out.now = rw front (omega arith) in
    search rules

pub put-requires : goal.put-requires
put-requires g t c =
    let front : length c.split_at.result.0.now ≡ c.split_point.result = c.split_at.ensures.front_len in
    let l = length_left c.split_point.result (length c.args.blocks.now) c.split_point.ensures c.args.number (rw front at c.if-number-first.true) in
    let long = rw front at c.write_path-below.ensures.long in
    omega (arith, c.write_path-below.auto.out)

pub write_path-below-requires-else-number-first : goal.write_path-below-requires-else-number-first
write_path-below-requires-else-number-first g t c κs within =
    let s = split_within c.split_point.result (length c.args.blocks.now) c.split_point.ensures in
    let front : length c.split_at.result.0.now ≡ c.split_point.result = c.split_at.ensures.front_len in
    let back : length c.split_at.result.1.now ≡ length c.args.blocks.now - c.split_point.result = omega (arith, c.split_at.ensures.back_len) in
    let r = length_right c.split_point.result (length c.args.blocks.now) c.split_point.ensures c.args.number (rw front at c.if-number-first.false) in
    let short : path_length (c.args.number - length c.split_at.result.0.now) (length c.split_at.result.1.now) ≤ length c.args.out.now = rw (front, back) (omega arith) in
    search rules

pub put-requires-else-number-first : goal.put-requires-else-number-first
put-requires-else-number-first g t c =
    let front : length c.split_at.result.0.now ≡ c.split_point.result = c.split_at.ensures.front_len in
    let back : length c.split_at.result.1.now ≡ length c.args.blocks.now - c.split_point.result = omega (arith, c.split_at.ensures.back_len) in
    let r = length_right c.split_point.result (length c.args.blocks.now) c.split_point.ensures c.args.number (rw front at c.if-number-first.false) in
    let long = rw (front, back) at c.write_path-below-else-number-first.ensures.long in
    omega (arith, c.write_path-below-else-number-first.auto.out)

pub returns-then-number-first : goal.returns-then-number-first
returns-then-number-first g t c =
    let d = g.D.HashFunction.meaning in
    let bs = c.args.blocks.now in
    let k = c.split_point.result in
    let i = c.args.number in
    let below : i < k = rw c.split_at.ensures.front_len at c.if-number-first.true in
    let path_is = rw (← c.split_at.ensures.front, ← c.split_at.ensures.back) at (path_split_left d k bs c.split_point.ensures i below) in
    let length_is = rw (← c.split_at.ensures.front_len) at (length_left k (length bs) c.split_point.ensures i below) in
    let w = wrote d i i bs c.split_at.result.0.now c.split_at.result.1.now c.args.out.now c.write_path-below.new.out c.put.new.out
    c.root.result c.write_path-below.result c.put.result c.if-number-first.true path_is length_is c.requires.room
    c.write_path-below.ensures.long c.write_path-below.ensures.out c.root.ensures c.put.ensures.next c.put.ensures.out in
    record { long = w.0; out = w.1 }

pub returns-else-number-first : goal.returns-else-number-first
returns-else-number-first g t c =
    let d = g.D.HashFunction.meaning in
    let bs = c.args.blocks.now in
    let k = c.split_point.result in
    let i = c.args.number in
    let front = c.split_at.ensures.front_len in
    let back : length c.split_at.result.1.now ≡ length bs - k = omega (arith, c.split_at.ensures.back_len) in
    let above : k ≤ i = rw front at c.if-number-first.false in
    let j = i - length c.split_at.result.0.now in
    let path_is = rw (← c.split_at.ensures.front, ← c.split_at.ensures.back, ← front) at (path_split_right d k bs c.split_point.ensures i above c.requires.within) in
    let length_is = rw (← back, ← front) at (length_right k (length bs) c.split_point.ensures i above) in
    let w = wrote d i j bs c.split_at.result.1.now c.split_at.result.0.now c.args.out.now c.write_path-below-else-number-first.new.out c.put-else-number-first.new.out
    c.root-else-number-first.result c.write_path-below-else-number-first.result c.put-else-number-first.result (omega arith) path_is length_is c.requires.room
    c.write_path-below-else-number-first.ensures.long c.write_path-below-else-number-first.ensures.out c.root-else-number-first.ensures
    c.put-else-number-first.ensures.next c.put-else-number-first.ensures.out in
    record { long = w.0; out = w.1 }
