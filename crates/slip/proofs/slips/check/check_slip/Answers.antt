use Rattle.std.proofs.Common.{◌≡◌, Result, ap, ◌∙◌}
use Rattle.std.proofs.lemmas.Result.{err_from_is_err_and}
use Rattle.std.specs.Prelude.{is_ok}
use Rattle.terms.specs.declared.refusal.Refusal.{Refusal}
use Rattle.slip.specs.Slip.{Shown, check_answer}
use Rattle.slip.proofs.Checks.{check_seal, check_read, check_held}
use Rattle.slip.proofs.Exactly.{accepts}
use Rattle.slip.proofs.slips.check.check_slip.Goals as goal

pub returns-in_err-seal : goal.returns-in_err-seal
returns-in_err-seal g c =
    let d = g.D.HashFunction.meaning in
    let k = g.D.HashFunction.KIND in
    let p = err_from_is_err_and c.from_residual.result c.from_residual.ensures.1 in
    let answer : c.from_residual.result ≡ check_answer d k c.args.seal.now c.args.slip.now =
    rw (p.1, p.2) (check_seal d k c.args.seal.now c.args.slip.now _ c.in_err-seal.ensures) in
    record { answer = answer; accepts = ap (λ (a : Result Shown Refusal). is_ok a) answer ∙ accepts d k c.args.seal.now c.args.slip.now }

pub returns-in_err-read : goal.returns-in_err-read
returns-in_err-read g c =
    let d = g.D.HashFunction.meaning in
    let k = g.D.HashFunction.KIND in
    let r = c.from_residual-in_err-read.result in
    let p = err_from_is_err_and r c.from_residual-in_err-read.ensures.1 in
    let answer : r ≡ check_answer d k c.args.seal.now c.args.slip.now =
    rw (p.1, p.2) (check_read d k c.args.seal.now c.args.slip.now c.in_ok-seal.seal c.in_ok-seal.ensures _ c.in_err-read.ensures) in
    record { answer = answer; accepts = ap (λ (a : Result Shown Refusal). is_ok a) answer ∙ accepts d k c.args.seal.now c.args.slip.now }

pub returns : goal.returns
returns g c =
    let d = g.D.HashFunction.meaning in
    let k = g.D.HashFunction.KIND in
    let answer =
    check_held d k c.args.seal.now c.args.slip.now c.in_ok-seal.seal c.in_ok-seal.ensures c.in_ok-read.field-0 _ c.in_ok-read.ensures c.check.ensures.answer in
    record { answer = answer; accepts = ap (λ (a : Result Shown Refusal). is_ok a) answer ∙ accepts d k c.args.seal.now c.args.slip.now }
