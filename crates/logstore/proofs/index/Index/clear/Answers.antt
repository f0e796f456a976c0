use Rattle.std.proofs.Common.{◌≡◌, length, None, replicate, ap, ◌∙◌, rules}
use Rattle.std.proofs.lemmas.Grind.{common_steps}
use Rattle.std.proofs.lemmas.List.{with_items_is}
use Rattle.logstore.specs.Index.{slots}
use Rattle.logstore.proofs.index.Index.clear.Goals as goal

pub returns : goal.returns
returns c =
    let starts = c.args.self.now.starts in
    let filled : c.fill.new.self ≡ replicate (length c.as_mut_slice.result.now) None = search rules in
    let wide = c.as_mut_slice.ensures.len ∙ c.args.self.now.wide in
    let blank : c.fill.new.self ≡ replicate slots None = filled ∙ ap (λ n. replicate n None) wide in
    with_items_is starts c.fill.new.self (ap length filled ∙ search (rules, common_steps)) ∙ blank
