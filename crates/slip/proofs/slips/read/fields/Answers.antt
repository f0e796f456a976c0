use Rattle.std.proofs.Common.{◌≡◌, ◌+◌, Ok, ap, ◌∙◌, take, drop}
use Rattle.std.proofs.lemmas.Result.{err_from_is_err_and}
use Rattle.fields.specs.Fields.{Reading, from, has_field, after, ended}
use Rattle.seal.specs.Forms.{tested, head_after}
use Rattle.slip.specs.Slip.{block_number_of, number_at}
use Rattle.seal.proofs.Readings.{bad_at, good, goes_past, Head, head_good, past_head}
use Rattle.slip.proofs.Reading.{bad_head, bad_number, field_there, bad_block, bad_path, bad_end, all_good}
use Rattle.slip.proofs.slips.read.fields.Goals as goal
use Rattle.slip.proofs.slips.read.fields.Goals.{In_ok-header, In_ok-number, In_ok-block, In_ok-path}

-- what was read, and where the reader then stands
front : (c : In_ok-header) → Head 1 c.args.bytes.now c.in_ok-header.header
front c = head_good 1 c.args.bytes.now c.in_ok-header.header (rw c.new-reader.ensures at c.in_ok-header.ensures.value)

at_number : (c : In_ok-header) → c.read_head.new.reader ≡ from c.args.bytes.now 11
at_number c = c.read_head.ensures.reader ∙ ap head_after c.new-reader.ensures ∙ past_head 1 c.args.bytes.now c.in_ok-header.header (front c)

number : (c : In_ok-number) → Ok c.in_ok-number.number ≡ tested (number_at c.in_ok-header.header.count (from c.args.bytes.now 11)) (bad_at 11) (block_number_of c.args.bytes.now)
number c = rw (at_number (goal.at.In_ok-number c).In_ok-header) at c.in_ok-number.ensures.value

at_block : (c : In_ok-number) → c.number_field.new.reader ≡ from c.args.bytes.now 18
at_block c =
    let here = (goal.at.In_ok-number c).In_ok-header in
    c.number_field.ensures.reader ∙ ap (λ (r : Reading). after r 4 4) (at_number here)
    ∙ goes_past (from c.args.bytes.now 11) 4 4 (field_there c.args.bytes.now _ (front here) _ (number c))

block : (c : In_ok-block) → Ok c.in_ok-block.block.now ≡ tested (has_field (from c.args.bytes.now 18) 5 1024) (bad_at 18) (take 1024 (drop 21 c.args.bytes.now))
block c = rw (at_block (goal.at.In_ok-block c).In_ok-number) at c.in_ok-block.ensures.value

at_path : (c : In_ok-block) → c.array.new.self ≡ from c.args.bytes.now 1045
at_path c =
    c.array.ensures.reader ∙ ap (λ (r : Reading). after r 5 1024) (at_block (goal.at.In_ok-block c).In_ok-number)
    ∙ goes_past (from c.args.bytes.now 18) 5 1024 (good _ _ _ _ (block c)).0

path : (c : In_ok-path) →
    Ok c.in_ok-path.path.now
    ≡ tested (has_field (from c.args.bytes.now 1045) 6 c.path_bytes.result) (bad_at 1045) (take c.path_bytes.result (drop 1048 c.args.bytes.now))
path c = rw (at_path (goal.at.In_ok-path c).In_ok-block) at c.in_ok-path.ensures.value

at_end : (c : In_ok-path) → c.field.new.self ≡ from c.args.bytes.now (1045 + (c.path_bytes.result + 3))
at_end c =
    c.field.ensures.reader ∙ ap (λ (r : Reading). after r 6 c.path_bytes.result) (at_path (goal.at.In_ok-path c).In_ok-block)
    ∙ goes_past (from c.args.bytes.now 1045) 6 c.path_bytes.result (good _ _ _ _ (path c)).0

pub returns-in_err-header : goal.returns-in_err-header
returns-in_err-header c =
    let p = err_from_is_err_and c.from_residual.result c.from_residual.ensures.1 in
    rw (p.1, p.2) (bad_head c.args.bytes.now _ (rw c.new-reader.ensures at c.in_err-header.ensures.value))

pub returns-in_err-number : goal.returns-in_err-number
returns-in_err-number c =
    let p = err_from_is_err_and c.from_residual-in_err-number.result c.from_residual-in_err-number.ensures.1 in
    let here = (goal.at.returns-in_err-number c).In_ok-header in
    rw (p.1, p.2) (bad_number c.args.bytes.now _ (front here) _ (rw (at_number here) at c.in_err-number.ensures.value))

pub returns-in_err-block : goal.returns-in_err-block
returns-in_err-block c =
    let p = err_from_is_err_and c.from_residual-in_err-block.result c.from_residual-in_err-block.ensures.1 in
    let here = (goal.at.returns-in_err-block c).In_ok-number in
    rw (p.1, p.2)
    (bad_block c.args.bytes.now _ (front (goal.at.In_ok-number here).In_ok-header) _ (number here) _ (rw (at_block here) at c.in_err-block.ensures.value))

pub returns-in_err-path : goal.returns-in_err-path
returns-in_err-path c =
    let p = err_from_is_err_and c.from_residual-in_err-path.result c.from_residual-in_err-path.ensures.1 in
    let here = (goal.at.returns-in_err-path c).In_ok-block in
    let before = (goal.at.In_ok-block here).In_ok-number in
    rw (p.1, p.2)
    (bad_path c.args.bytes.now _ (front (goal.at.In_ok-number before).In_ok-header) _ (number before) _ (block here) c.path_bytes.result c.path_bytes.ensures _
    (rw (at_path here) at c.in_err-path.ensures.value))

pub returns-in_err-finish : goal.returns-in_err-finish
returns-in_err-finish c =
    let p = err_from_is_err_and c.from_residual-in_err-finish.result c.from_residual-in_err-finish.ensures.1 in
    let here = (goal.at.returns-in_err-finish c).In_ok-path in
    let read = (goal.at.In_ok-path here).In_ok-block in
    let before = (goal.at.In_ok-block read).In_ok-number in
    rw (p.1, p.2)
    (bad_end c.args.bytes.now _ (front (goal.at.In_ok-number before).In_ok-header) _ (number before) _ (block read) c.path_bytes.result c.path_bytes.ensures _ (path here) _
    (c.in_err-finish.ensures.answer ∙ ap ended (at_end here)))

pub returns : goal.returns
returns c =
    let here = (goal.at.returns c).In_ok-path in
    let read = (goal.at.In_ok-path here).In_ok-block in
    let before = (goal.at.In_ok-block read).In_ok-number in
    all_good c.args.bytes.now _ (front (goal.at.In_ok-number before).In_ok-header) _ (number before) _ (block read) c.path_bytes.result c.path_bytes.ensures _ (path here)
    c.in_ok-finish.field-0 (c.in_ok-finish.ensures.answer ∙ ap ended (at_end here))
