use Rattle.std.proofs.Common.{◌≡◌, ℕ, ◌-◌, ◌<◌, ◌≤◌, List, length, take, Some, vec_items, sym, ap, subst, ◌∙◌, arith}
use native.Mathlib.Nat.{sub-zero}
use Rattle.std.proofs.lemmas.Bool.{cond-true, cond-false, le-leb, lt-leb, ne_eqb}
use Rattle.std.proofs.lemmas.List.{length-take-le}
use Rattle.terms.specs.declared.refusal.Refusal.TheVariants.{LogForm}
use Rattle.logstore.specs.Index.{Agrees}
use Rattle.logstore.specs.Records.{stop_of}
use Rattle.logstore.proofs.log.Log.open.Goals as goal

-- the bytes that are read
cut : (used : ℕ) (bytes s : List ℕ) → s ≡ bytes → take (used - 0) s ≡ take used bytes
cut used bytes s e = ap (λ n. take n s) (sub-zero used) ∙ ap (take used) e

pub invariant_of-result : goal.invariant_of-result
invariant_of-result c =
    let used = c.args.used in
    let bytes = vec_items c.args.bytes in
    let low : used ≤ length bytes = omega (arith, c.args.bytes.ok.0, c.len-length.ensures) in
    let read = cut used bytes c.deref.result.now c.deref.ensures.value in
    record {
      within = omega (arith, c.len-length.ensures);
      whole = sym (ap stop_of read) ∙ sym c.note_all-at.ensures.stop ∙ c.if-at-used.false ∙ sym (length-take-le used bytes low);
      agrees = subst (λ bs. Agrees bs (vec_items c.note_all-at.new.self.starts)) read c.note_all-at.ensures.agrees;
    }

pub returns-then-used-length : goal.returns-then-used-length
returns-then-used-length c =
    let bytes = vec_items c.args.bytes in
    let past : length bytes < c.args.used = omega (arith, c.args.bytes.ok.0, c.len-length.ensures) in
    let at : length bytes ≡ c.len-length.result = omega (arith, c.args.bytes.ok.0, c.len-length.ensures) in
    (cond-false _ _ _ (lt-leb c.args.used (length bytes) past) ∙ ap (λ n. Some (LogForm n)) at, c.blank_log-log.ensures.bytes, c.blank_log-log.ensures.used)

pub returns-then-at-used : goal.returns-then-at-used
returns-then-at-used c =
    let used = c.args.used in
    let bytes = vec_items c.args.bytes in
    let low : used ≤ length bytes = omega (arith, c.args.bytes.ok.0, c.len-length.ensures) in
    let at : stop_of (take used bytes) ≡ c.note_all-at.result = ap stop_of (sym (cut used bytes c.deref.result.now c.deref.ensures.value)) ∙ sym c.note_all-at.ensures.stop in
    let other : stop_of (take used bytes) ≡ used → ⊥ = λ e. c.if-at-used.true (sym at ∙ e) in (
      cond-true _ _ _ (le-leb used (length bytes) low) ∙ cond-false _ _ _ (ne_eqb _ used other) ∙ ap (λ n. Some (LogForm n)) at,
      c.blank_log-log-then-at-used.ensures.bytes,
      c.blank_log-log-then-at-used.ensures.used,
    )
