use Rattle.std.proofs.Common.{◌+◌, ◌<◌, ◌≤◌, vec_len, arith, rules, tests}
use Rattle.std.proofs.lemmas.Iterator.{first_from_Range}
use Rattle.flat.specs.Layout.{layout_length}
use Rattle.flat.proofs.Spans.{span_found}
use Rattle.flat.proofs.flat.Flat.new.Goals as goal

pub invariant_of-result : goal.invariant_of-result
invariant_of-result c =
    let n = vec_len c.args.bytes in
    record {
      spans = span_found n c.sure_span.result c.find.result c.unwrap_or-span.result c.sure_span.ensures.few (omega (arith, c.sure_span.ensures.fits, c.len.ensures)) c.unwrap_or-span.ensures
          (first_from_Range _ _ _ _ (λ k. n < layout_length (k + 1)) (λ k. layout_length (k + 1) ≤ n) c.find.ensures.ran (λ x q k. search (rules, tests)) (λ x q k. (search rules, search (rules, tests))));
    }
