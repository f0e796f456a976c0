-- The check of a slip under a seal.
use Rattle.std.proofs.Common.{◌≡◌, ℕ, Bool, true, ltb, Some, None, Ok, Err, Option, Result, sym, refl, ap, ◌∙◌, ap₂, arith}
use Rattle.std.proofs.lemmas.Bool.{and_parts, cond-true, cond-false}
use Rattle.std.specs.Result.{result_map_both}
use Rattle.std.specs.Str.{bytes_eq}
use Rattle.terms.specs.declared.refusal.Refusal.{Refusal}
use Rattle.terms.specs.declared.refusal.Refusal.TheVariants.{NoSuchBlock, SealForm, SlipForm, SlipRoot}
use Rattle.hash.specs.Hash.{Bytes}
use Rattle.tree.specs.Answers.{root_answer}
use Rattle.tree.specs.Tree.{turns, digests, path_root}
use Rattle.seal.specs.Forms.{unless_fault, tested}
use Rattle.seal.specs.Seal.{Sealed, seal_form, sealed, is_under, seal_under, seal_answer}
use Rattle.slip.specs.Slip.{Slipped, Shown, shown, slip_fault, slipped, read_answer, of_seal, leads, held_answer, under_answer, unless_read, check_answer}
use Rattle.seal.proofs.Readings.{good, bad}

-- what the reading said of the slip
misread : (o : Option ℕ) (v : Slipped) (a : Result Shown Refusal) (r : Refusal) → Err r ≡ result_map_both (λ x. x) (λ e. SlipForm e.at) (unless_fault o v) → Err r ≡ unless_read o a
misread None v a r h = let z : ◌≡◌ {A = ℕ} 0 1 = cc in absurd (omega arith)
misread (Some i) v a r h = cc

well_read : (o : Option ℕ) (v x : Slipped) → ◌≡◌ {A = Result Slipped Refusal} (Ok x) (result_map_both (λ x. x) (λ e. SlipForm e.at) (unless_fault o v)) → (o ≡ None) × (x ≡ v)
well_read None v x h = (refl, cc)
well_read (Some i) v x h = let z : ◌≡◌ {A = ℕ} 0 1 = cc in absurd (omega arith)

module _ (d : Bytes → Bytes) (k : ℕ) where
  -- the last test: the root decides
  pub held : (x : Slipped) (y : Sealed) (root : Bytes) (b : Bool) → is_under d k y ≡ true → Ok root ≡ root_answer d x.number x.count x.block x.path →
      of_seal x y ≡ true → bytes_eq root y.root ≡ b → tested b SlipRoot (shown x) ≡ under_answer d k x y
  held x y root b under is-root of same =
      let r = good (ltb x.number x.count) NoSuchBlock (path_root d (turns x.number x.count) x.block (digests x.path)) root is-root in
      let at_root : leads d x y ≡ b = ap (λ (z : Bytes). bytes_eq z y.root) (sym r.1) ∙ same in
      rw (under, of, at_root)

  module _ (seal slip : Bytes) where
    pub check_seal : (r : Refusal) → Err r ≡ seal_answer d k seal → Err r ≡ check_answer d k seal slip
    check_seal r h =
        let b = bad (seal_under d k seal) SealForm (sealed seal) r h in
        ap (λ (e : Refusal). Err e) b.1 ∙ sym (cond-false (seal_under d k seal) _ (Err SealForm) b.0)

    module _ (y : Sealed) (seal-is : Ok y ≡ seal_answer d k seal) where
      under : (seal_under d k seal ≡ true) × (y ≡ sealed seal)
      under = good (seal_under d k seal) SealForm (sealed seal) y seal-is

      pub check_read : (r : Refusal) → Err r ≡ read_answer slip → Err r ≡ check_answer d k seal slip
      check_read r h =
          misread (slip_fault slip) (slipped slip) (held_answer d (slipped slip) (sealed seal)) r h
          ∙ sym (cond-true (seal_under d k seal) (unless_read (slip_fault slip) (held_answer d (slipped slip) (sealed seal))) (Err SealForm) under.0)

      pub check_held : (x : Slipped) (a : Result Shown Refusal) → Ok x ≡ read_answer slip → a ≡ under_answer d k x y → a ≡ check_answer d k seal slip
      check_held x a h e =
          let r = well_read (slip_fault slip) (slipped slip) x h in
          let both = and_parts (seal_form seal) (is_under d k (sealed seal)) under.0 in
          let at-seal = ap₂ (λ (u : Slipped) (v : Sealed). under_answer d k u v) r.1 under.1 in
          e ∙ at-seal
          ∙ cond-true (is_under d k (sealed seal)) _ (Err SealForm) both.1
          ∙ ap (λ (o : Option ℕ). unless_read o (held_answer d (slipped slip) (sealed seal))) (sym r.0)
          ∙ sym (cond-true (seal_under d k seal) (unless_read (slip_fault slip) (held_answer d (slipped slip) (sealed seal))) (Err SealForm) under.0)
