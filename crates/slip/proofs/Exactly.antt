-- What a check accepts.
use Rattle.std.proofs.Common.{◌≡◌, ℕ, Bool, true, false, cond, not, ◌&&◌, is_some, is_ok, Some, None, Err, Option, refl}
use Rattle.terms.specs.declared.refusal.Refusal.TheVariants.{SealForm, OtherSeal, SlipRoot}
use Rattle.seal.specs.Forms.{tested}
use Rattle.seal.specs.Seal.{sealed, seal_under}
use Rattle.slip.specs.Laws.{AcceptsExactly}
use Rattle.slip.specs.Slip.{Shown, shown, slip_fault, slipped, of_seal, leads, unless_read}

-- the tests of a check, one after another
by_tests : (u : Bool) (o : Option ℕ) (f l : Bool) (x : Shown) →
    is_ok (cond u (unless_read o (cond f (tested l SlipRoot x) (Err OtherSeal))) (Err SealForm)) ≡ (u && not (is_some o) && f && l)
by_tests false o f l x = refl
by_tests true (Some at) f l x = refl
by_tests true None false l x = refl
by_tests true None true false x = refl
by_tests true None true true x = refl

pub accepts : AcceptsExactly
accepts d k seal slip =
    by_tests (seal_under d k seal) (slip_fault slip) (of_seal (slipped slip) (sealed seal)) (leads d (slipped slip) (sealed seal)) (shown (slipped slip))
