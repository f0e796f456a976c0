-- The reading of a seal.
use Rattle.std.proofs.Common.{MatchResult, Result, ◌≡◌, ℕ, Bool, not, ◌&&◌, eqb, [], length, drop, is_some, Ok, Err, Option, sym, refl, ap, ◌∙◌}
use Rattle.std.proofs.lemmas.Bool.{cond-true, cond-false, and_left}
use Rattle.fields.specs.Fields.{from, has_field, ended}
use Rattle.fields.specs.declared.bad_field.BadField.{BadField}
use Rattle.terms.specs.declared.refusal.Refusal.{Refusal}
use Rattle.terms.specs.declared.refusal.Refusal.TheVariants.{SealForm}
use Rattle.hash.specs.Hash.{Bytes}
use Rattle.seal.specs.declared.header.Header.{Header}
use Rattle.seal.specs.Forms.{first_bad, tested}
use Rattle.seal.specs.Seal.{Sealed, seal_root, seal_tests, seal_fault, seal_form, sealed, is_under, seal_under, fields_answer, form_answer, seal_answer}
use Rattle.seal.proofs.Readings.{Head, bad_at, head_passes, good, bad, field_ends, pass, stop, extra, none_extra, at_fault, no_fault, fault_free, faulty}

module _ (s : Bytes) (h : Header) (front : Head 0 s h) where
  pub bad_root : (e : BadField) → Err e ≡ tested (has_field (from s 11) 3 32) (bad_at 11) (seal_root s) → Err e ≡ fields_answer s
  bad_root e f =
      let b = bad (has_field (from s 11) 3 32) (bad_at 11) (seal_root s) e f in
      at_fault (seal_fault s) (sealed s) 11 e (head_passes 0 s h front (drop 2 (seal_tests s)) ∙ stop 11 _ (drop 3 (seal_tests s)) b.0) b.1

  module _ (r : Bytes) (root : Ok r ≡ tested (has_field (from s 11) 3 32) (bad_at 11) (seal_root s)) where
    whole : seal_fault s ≡ first_bad (drop 3 (seal_tests s))
    whole = head_passes 0 s h front (drop 2 (seal_tests s)) ∙ pass 11 (has_field (from s 11) 3 32) (drop 3 (seal_tests s)) (good _ _ _ _ root).0

    pub bad_end : (e : BadField) → Err e ≡ ended (from s 46) → Err e ≡ fields_answer s
    bad_end e f = let x = extra s 46 e f in at_fault (seal_fault s) (sealed s) 46 e (whole ∙ stop 46 _ [] x.0) x.1

    pub all_good : (u : Unit {0}) → Ok u ≡ ended (from s 46) → Ok (record { kind = h.kind; count = h.count; root = r }) ≡ fields_answer s
    all_good u f =
        let enough = field_ends (from s 11) 3 32 (good _ _ _ _ root).0 in
        let r-is = (good (has_field (from s 11) 3 32) (bad_at 11) (seal_root s) r root).1 in
        let says = front.says in
        no_fault (seal_fault s) (sealed s) _ (whole ∙ pass 46 (eqb (length s) 46) [] (none_extra s 46 u enough f)) (rw (says, r-is) refl)

-- by the form alone
pub form_is : (s : Bytes) (a : Result Sealed BadField) → a ≡ fields_answer s → MatchResult a (λ x. Ok x ≡ form_answer s) (λ e. Err SealForm ≡ form_answer s)
form_is s (Ok x) h =
    let f = fault_free (seal_fault s) (sealed s) x h in
    ap (λ (y : Sealed). Ok y) f.1 ∙ sym (cond-true (seal_form s) (Ok (sealed s)) (Err SealForm) (ap (λ (o : Option ℕ). not (is_some o)) f.0))
form_is s (Err e) h =
    sym (cond-false (seal_form s) (Ok (sealed s)) (Err SealForm) (ap (λ (o : Option ℕ). not (is_some o)) (faulty (seal_fault s) (sealed s) e h).1))

-- under a hash
module _ (d : Bytes → Bytes) (k : ℕ) (s : Bytes) where
  pub under_refused : (r : Refusal) → Err r ≡ form_answer s → Err r ≡ seal_answer d k s
  under_refused r h =
      let down = bad (seal_form s) SealForm (sealed s) r h in
      ap (λ (e : Refusal). Err e) down.1 ∙ sym (cond-false (seal_under d k s) (Ok (sealed s)) (Err SealForm) (and_left (seal_form s) _ down.0))

  pub under_kept : (x : Sealed) (a : Result Sealed Refusal) → Ok x ≡ form_answer s → a ≡ tested (is_under d k x) SealForm x → a ≡ seal_answer d k s
  under_kept x a form h =
      let formed = good (seal_form s) SealForm (sealed s) x form in
      h ∙ ap (λ (y : Sealed). tested (is_under d k y) SealForm y) formed.1
      ∙ ap (λ (b : Bool). tested (b && is_under d k (sealed s)) SealForm (sealed s)) (sym formed.0)
