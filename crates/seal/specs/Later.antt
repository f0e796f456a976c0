-- Which of two seals is later.
-- Assumes nothing.
use Rattle.std.specs.Prelude.{ℕ, cond, ◌&&◌, Result, ◌==◌, nat_lt}
use Rattle.std.specs.Str.{bytes_eq}
use Rattle.terms.specs.declared.refusal.Refusal.{Refusal}
use Rattle.terms.specs.declared.refusal.Refusal.TheVariants.{SealForm}
use Rattle.hash.specs.Hash.{Bytes}
use Rattle.seal.specs.Forms.{tested}
use Rattle.seal.specs.Seal.{Sealed, seal_form, sealed}
use Rattle.seal.specs.declared.order.Later.{Later}
use Rattle.seal.specs.declared.order.Later.TheVariants.{Same, First, Second, Unrelated}

-- what stands for each answer
abbrev pub later_number : Later → ℕ
later_number Same = 0
later_number First = 1
later_number Second = 2
later_number Unrelated = 3

-- within one kind, the seal with more blocks is later; equal kind, count and root are the same
abbrev pub later_of : Sealed → Sealed → Later
later_of x y =
    cond (x.kind == y.kind)
    (cond (nat_lt y.count x.count) First (cond (nat_lt x.count y.count) Second (cond (bytes_eq x.root y.root) Same Unrelated)))
    Unrelated

-- the comparison of two seals by their bytes, with no hash
abbrev pub later_answer : Bytes → Bytes → Result Later Refusal
later_answer s t = tested (seal_form s && seal_form t) SealForm (later_of (sealed s) (sealed t))
