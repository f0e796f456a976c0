use Rattle.std.proofs.Common.{◌<◌, get_or, sym, arith}
use Rattle.std.proofs.lemmas.Bool.{cond-false}
use Rattle.std.proofs.lemmas.Bool.Decides.{nat_tests}
use Rattle.terms.specs.Levels.{top_level}
use Rattle.fields.specs.Fields.{big2}
use Rattle.logstore.proofs.Slots.{node_high}
use Rattle.logstore.proofs.record.node_place.Goals as goal

pub returns-in_err-new : goal.returns-in_err-new
returns-in_err-new c =
    let rest = c.args.rest.now in
    let high : top_level < get_or rest 0 0 = grind (arith, nat_tests, c.in_err-new.ensures) in
    rw c.from_residual.ensures (sym (cond-false _ _ _ (node_high (record { 0 = get_or rest 0 0 }) (record { 0 = big2 rest 1 }) high)))
