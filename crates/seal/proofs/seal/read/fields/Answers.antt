use Rattle.std.proofs.Common.{◌≡◌, Ok, ap, ◌∙◌}
use Rattle.std.proofs.lemmas.Result.{err_from_is_err_and}
use Rattle.fields.specs.Fields.{Reading, from, has_field, after, ended}
use Rattle.seal.specs.Forms.{tested, head_after}
use Rattle.seal.specs.Seal.{seal_root}
use Rattle.seal.proofs.Readings.{bad_at, good, goes_past, Head, head_good, past_head}
use Rattle.seal.proofs.Seals.{bad_root, bad_end, all_good}
use Rattle.seal.proofs.seal.read.fields.Goals as goal
use Rattle.seal.proofs.seal.read.fields.Goals.{In_ok-header, In_ok-root}

-- what was read, and where the reader then stands
front : (c : In_ok-header) → Head 0 c.args.bytes.now c.in_ok-header.header
front c = head_good 0 c.args.bytes.now c.in_ok-header.header (rw c.new-reader.ensures at c.in_ok-header.ensures.value)

at_root : (c : In_ok-header) → c.read_head.new.reader ≡ from c.args.bytes.now 11
at_root c = c.read_head.ensures.reader ∙ ap head_after c.new-reader.ensures ∙ past_head 0 c.args.bytes.now c.in_ok-header.header (front c)

root : (c : In_ok-root) → Ok c.in_ok-root.field-0.now ≡ tested (has_field (from c.args.bytes.now 11) 3 32) (bad_at 11) (seal_root c.args.bytes.now)
root c = rw (at_root (goal.at.In_ok-root c).In_ok-header) at c.in_ok-root.ensures.value

at_end : (c : In_ok-root) → c.array.new.self ≡ from c.args.bytes.now 46
at_end c =
    c.array.ensures.reader ∙ ap (λ (r : Reading). after r 3 32) (at_root (goal.at.In_ok-root c).In_ok-header)
    ∙ goes_past (from c.args.bytes.now 11) 3 32 (good _ _ _ _ (root c)).0

pub returns-in_err-root : goal.returns-in_err-root
returns-in_err-root c =
    let p = err_from_is_err_and c.from_residual-in_err-root.result c.from_residual-in_err-root.ensures.1 in
    let here = (goal.at.returns-in_err-root c).In_ok-header in
    rw (p.1, p.2) (bad_root c.args.bytes.now _ (front here) _ (rw (at_root here) at c.in_err-root.ensures.value))

pub returns-in_err-finish : goal.returns-in_err-finish
returns-in_err-finish c =
    let p = err_from_is_err_and c.from_residual-in_err-finish.result c.from_residual-in_err-finish.ensures.1 in
    let here = (goal.at.returns-in_err-finish c).In_ok-root in
    rw (p.1, p.2)
    (bad_end c.args.bytes.now _ (front (goal.at.In_ok-root here).In_ok-header) _ (root here) _ (c.in_err-finish.ensures.answer ∙ ap ended (at_end here)))

pub returns : goal.returns
returns c =
    let here = (goal.at.returns c).In_ok-root in
    all_good c.args.bytes.now _ (front (goal.at.In_ok-root here).In_ok-header) _ (root here) c.in_ok-finish.field-0 (c.in_ok-finish.ensures.answer ∙ ap ended (at_end here))
