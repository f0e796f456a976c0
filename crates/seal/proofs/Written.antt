-- What is written is read.
use Rattle.std.proofs.Common.{◌≡◌, ℕ, ◌≤◌, not, ◌&&◌, eqb, ltb, leb, [], length, drop, is_some, Ok, Err, Option, refl, ap, ◌∙◌, ap₂, arith}
use Rattle.std.proofs.lemmas.List.{take_all}
use Rattle.std.proofs.lemmas.Bool.{eq-eqb, le-leb, lt-ltb, and_from, cond-true}
use Rattle.terms.specs.declared.refusal.Refusal.TheVariants.{SealForm}
use Rattle.fields.specs.Fields.{big4, bytes4, from, has_field}
use Rattle.hash.specs.Hash.{Bytes}
use Rattle.seal.specs.Forms.{kind_field, count_of, count_field}
use Rattle.seal.specs.Laws.{WrittenIsRead}
use Rattle.seal.specs.Seal.{seal_root, seal_tests, seal_form, sealed, seal_bytes}
use Rattle.seal.proofs.Readings.{field_there, pass}

-- a number in four bytes
pub number_back : (n : ℕ) → n ≤ 4096 → big4 (bytes4 n) 0 ≡ n
number_back n h = omega arith

pub written_is_read : WrittenIsRead
written_is_read x f =
    let s = seal_bytes x in
    let sized = f.sized in
    let long : length s ≡ 46 = omega arith in
    let count_is : count_of s ≡ x.count = number_back x.count f.few in
    let root_is : seal_root s ≡ x.root = take_all 32 x.root (omega arith) in
    let kind = and_from (has_field (from s 0) 1 1) (ltb 0 x.kind) (field_there (from s 0) 1 1 (omega arith) refl refl) (lt-ltb 0 x.kind f.named) in
    let few : count_of s ≤ 4096 = omega (arith, count_is, f.few) in
    let there = field_there (from s 4) 2 4 (omega arith) refl refl in
    let count = and_from (has_field (from s 4) 2 4 && leb 0 (count_of s)) (leb (count_of s) 4096) (and_from (has_field (from s 4) 2 4) (leb 0 (count_of s)) there (le-leb 0 (count_of s) (omega arith))) (le-leb (count_of s) 4096 few) in
    let root = field_there (from s 11) 3 32 (omega arith) refl refl in
    let end = eq-eqb (length s) 46 long in
    let fault = pass 0 (kind_field s) (drop 1 (seal_tests s)) kind ∙ pass 4 (count_field 0 s) (drop 2 (seal_tests s)) count ∙ pass 11 (has_field (from s 11) 3 32) (drop 3 (seal_tests s)) root ∙ pass 46 (eqb (length s) 46) [] end in
    cond-true (seal_form s) (Ok (sealed s)) (Err SealForm) (ap (λ (o : Option ℕ). not (is_some o)) fault)
    ∙ ap₂ (λ (n : ℕ) (r : Bytes). Ok (record { kind = x.kind; count = n; root = r })) count_is root_is
