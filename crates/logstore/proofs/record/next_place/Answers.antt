use Rattle.std.proofs.Common.{◌≡◌, List, ℕ, Ok, Result, ◌∙◌, subst, rules}
use Rattle.fields.specs.Fields.{content, from, given}
use Rattle.fields.specs.declared.bad_field.BadField.{BadField}
use Rattle.logstore.proofs.Nexts.{missed, node_next, whole_reading}
use Rattle.logstore.proofs.record.next_place.Goals as goal

pub returns-clause-value : goal.returns-clause-value
returns-clause-value c =
    let r = c.args.reader.now in
    let r' = c.array.new.self in
    let rest = c.in_ok-ok.field-0.now in
    let read : ◌≡◌ {A = Result (List ℕ) BadField} (Ok rest) (given r' 17 35 (content r' 35)) = search rules in
    let same : r' ≡ from r.bytes r.at = missed r r' 16 1026 (content r 1026) c.in_default.field-0 c.in_default.ensures.value c.in_default.ensures.reader ∙ whole_reading r c.requires in
    node_next r.bytes rest r.at c.node_place.result (subst (λ z. Ok rest ≡ given z 17 35 (content z 35)) same read) c.node_place.ensures
