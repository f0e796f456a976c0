use Rattle.std.proofs.Common.{◌+◌, ◌*◌, ◌^◌, ◌≤◌, sym, ap, ◌∙◌, arith}
use Rattle.std.proofs.lemmas.Bool.{leb-true}
use Rattle.terms.specs.Places.{inside}
use Rattle.terms.proofs.Spans.{node_low}
use Rattle.flat.proofs.layout.offset_of.Goals as goal

pub nodes_below-requires : goal.nodes_below-requires
nodes_below-requires c =
    let l = c.in-Node.level.0 in
    let j = c.in-Node.number.0 in
    let within : (j + 1) * 2 ^ l ≤ c.args.span = leb-true ((j + 1) * 2 ^ l) c.args.span (ap (inside c.args.span) (sym c.in-Node.is) ∙ c.requires) in
    omega (arith, node_low 32 l j (omega arith))
