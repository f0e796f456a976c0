use Rattle.std.proofs.Common.{◌/◌, ◌^◌, ◌∙◌, arith, rules}
use Rattle.std.proofs.lemmas.Iterator.{YieldsList-from_map, YieldsList-from_range}
use Rattle.std.proofs.lemmas.Iterator.Consumers.{fits_from_yields_list, sum_from_yields_List}
use Rattle.flat.specs.Sized.{nodes_few}
use Rattle.flat.proofs.Nodes.{nodes_sum}
use Rattle.flat.proofs.layout.nodes_below.Goals as goal

pub sum-requires-clause-fits : goal.sum-requires-clause-fits
sum-requires-clause-fits c =
    let span = c.args.span in
    fits_from_yields_list c.map.result _
    (YieldsList-from_map _ (λ l. span / 2 ^ l) (YieldsList-from_range 0 _ c.args.level c.map.ensures.source (omega arith)) c.map.ensures.closure (λ x r q k. search rules))
    (omega (arith, nodes_sum span c.args.level, nodes_few span c.args.level))

pub returns : goal.returns
returns c =
    let span = c.args.span in
    sum_from_yields_List c.map.result c.sum.result c.sum.ensures.ran
    (YieldsList-from_map _ (λ l. span / 2 ^ l) (YieldsList-from_range 0 _ c.args.level c.map.ensures.source (omega arith)) c.map.ensures.closure (λ x r q k. search rules))
    ∙ nodes_sum span c.args.level
