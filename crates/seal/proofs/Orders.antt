-- Which of two seals is later.
use Rattle.std.proofs.Common.{◌≡◌, ◌&&◌, Ok, Err, sym, ap, ◌∙◌, ap₂}
use Rattle.std.proofs.lemmas.Bool.{cond-true, cond-false, and_left, and_right, and_from}
use Rattle.terms.specs.declared.refusal.Refusal.{Refusal}
use Rattle.terms.specs.declared.refusal.Refusal.TheVariants.{SealForm}
use Rattle.hash.specs.Hash.{Bytes}
use Rattle.seal.specs.Seal.{Sealed, seal_form, sealed, form_answer}
use Rattle.seal.specs.Later.{later_of, later_answer}
use Rattle.seal.specs.declared.order.Later.{Later}
use Rattle.seal.proofs.Readings.{good, bad}

module _ (s t : Bytes) where
  pub later_first : (r : Refusal) → Err r ≡ form_answer s → Err r ≡ later_answer s t
  later_first r h =
      let down = bad (seal_form s) SealForm (sealed s) r h in
      ap (λ (e : Refusal). Err e) down.1 ∙ sym (cond-false (seal_form s && seal_form t) (Ok (later_of (sealed s) (sealed t))) (Err SealForm) (and_left (seal_form s) (seal_form t) down.0))

  pub later_second : (r : Refusal) → Err r ≡ form_answer t → Err r ≡ later_answer s t
  later_second r h =
      let down = bad (seal_form t) SealForm (sealed t) r h in
      ap (λ (e : Refusal). Err e) down.1 ∙ sym (cond-false (seal_form s && seal_form t) (Ok (later_of (sealed s) (sealed t))) (Err SealForm) (and_right (seal_form s) (seal_form t) down.0))

  pub later_both : (x y : Sealed) (a : Later) → Ok x ≡ form_answer s → Ok y ≡ form_answer t → a ≡ later_of x y → Ok a ≡ later_answer s t
  later_both x y a p q e =
      let v = good (seal_form s) SealForm (sealed s) x p in
      let w = good (seal_form t) SealForm (sealed t) y q in
      ap (λ (z : Later). Ok z) (e ∙ ap₂ later_of v.1 w.1) ∙ sym (cond-true (seal_form s && seal_form t) (Ok (later_of (sealed s) (sealed t))) (Err SealForm) (and_from _ _ v.0 w.0))
