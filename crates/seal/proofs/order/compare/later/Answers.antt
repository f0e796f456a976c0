use Rattle.std.proofs.lemmas.Result.{err_from_is_err_and}
use Rattle.seal.proofs.Orders.{later_first, later_second, later_both}
use Rattle.seal.proofs.order.compare.later.Goals as goal

pub returns-in_err-first : goal.returns-in_err-first
returns-in_err-first c =
    let p = err_from_is_err_and c.from_residual.result c.from_residual.ensures.1 in
    rw (p.1, p.2) (later_first c.args.first.now c.args.second.now _ c.in_err-first.ensures)

pub returns-in_err-second : goal.returns-in_err-second
returns-in_err-second c =
    let p = err_from_is_err_and c.from_residual-in_err-second.result c.from_residual-in_err-second.ensures.1 in
    rw (p.1, p.2) (later_second c.args.first.now c.args.second.now _ c.in_err-second.ensures)

pub returns : goal.returns
returns c =
    later_both c.args.first.now c.args.second.now c.in_ok-first.first c.in_ok-second.second c.compared.result
    c.in_ok-first.ensures c.in_ok-second.ensures c.compared.ensures
