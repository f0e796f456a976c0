use Rattle.std.proofs.Common.{◌^◌, ◌<◌, ◌≤◌, sym, ap, ◌∙◌, arith}
use Rattle.std.proofs.lemmas.Bool.{le-ltb}
use Rattle.terms.specs.Places.{inside}
use Rattle.terms.proofs.Spans.{nodes_inside, none_inside}
use Rattle.terms.proofs.place.Place.is_inside.Goals as goal

pub returns-then-level-lt32 : goal.returns-then-level-lt32
returns-then-level-lt32 c = nodes_inside c.args.span c.in-Node.level.0 c.in-Node.number.0 ∙ ap (inside c.args.span) (sym c.in-Node.is)

pub returns-else-level-lt32 : goal.returns-else-level-lt32
returns-else-level-lt32 c =
    let high : 32 ≤ c.in-Node.level.0 = omega arith in
    let small : c.args.span < 2 ^ 32 = omega arith in
    le-ltb c.in-Node.level.0 32 high
    ∙ sym (none_inside c.args.span c.in-Node.level.0 c.in-Node.number.0 small high)
    ∙ ap (inside c.args.span) (sym c.in-Node.is)
