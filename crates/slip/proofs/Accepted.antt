-- What an accepted slip shows.
use Rattle.std.proofs.Common.{◌≡◌, ℕ, zero, suc, ◌/◌, ◌<◌, Bool, true, false, cond, eqb, ltb, ◌⊎◌, List, [], ◌++◌, length, get_or, drop, Some, None, Ok, Err, Option, sym, refl, ap, ◌∙◌, subst, arith, length-drop}
use mathlib.Core.Logic.{⊎_map}
use Rattle.std.proofs.lemmas.Slice.Eq.{bytes_eq-Decides}
use Rattle.std.proofs.lemmas.Bool.{and_parts, eqb-true, ltb-true}
use Rattle.std.specs.Simd.{first_chunks}
use Rattle.terms.specs.declared.refusal.Refusal.TheVariants.{SealForm, OtherSeal, SlipRoot}
use Rattle.fields.specs.Fields.{from, has_field}
use Rattle.hash.specs.Hash.{Bytes}
use Rattle.tree.specs.Laws.{Hash, Sized}
use Rattle.tree.specs.Tree.{turns, path_length, digests, root, root_strings, path_root, path_strings, Clash}
use Rattle.tree.proofs.Theorems.{sound}
use Rattle.seal.specs.Forms.{tested, kind_field, count_field, count_of, kind_of}
use Rattle.seal.specs.Seal.{seal_root, sealed, seal_under}
use Rattle.seal.proofs.Readings.{all_pass}
use Rattle.slip.specs.Laws.{slip_strings, AcceptedIsTrue}
use Rattle.slip.specs.Slip.{number_at, Shown, shown, block_number_of, slip_length, slip_tests, slip_fault, slipped, of_seal, leads, unless_read}

-- the tests of a check that accepted
record Passed (u : Bool) (o : Option ℕ) (f l : Bool) (y x : Shown) : Type 0 where
  under : u ≡ true
  formed : o ≡ None
  fits : f ≡ true
  led : l ≡ true
  shows : y ≡ x

passed : (u : Bool) (o : Option ℕ) (f l : Bool) (y x : Shown) →
    cond u (unless_read o (cond f (tested l SlipRoot y) (Err OtherSeal))) (Err SealForm) ≡ Ok x → Passed u o f l y x
passed false o f l y x h = let z : ◌≡◌ {A = ℕ} 0 1 = cc in absurd (omega arith)
passed true (Some at) f l y x h = let z : ◌≡◌ {A = ℕ} 0 1 = cc in absurd (omega arith)
passed true None false l y x h = let z : ◌≡◌ {A = ℕ} 0 1 = cc in absurd (omega arith)
passed true None true false y x h = let z : ◌≡◌ {A = ℕ} 0 1 = cc in absurd (omega arith)
passed true None true true y x h = record { under = refl; formed = refl; fits = refl; led = refl; shows = cc }

length_chunked : (n k : ℕ) (s : Bytes) → length (first_chunks n k s) ≡ k
length_chunked n zero s = refl
length_chunked n (suc k) s = ap (λ (j : ℕ). suc j) (length_chunked n k (drop n s))

-- a slip with no fault has a number below its count
pub numbered : (s : Bytes) → slip_fault s ≡ None → ltb (block_number_of s) (count_of s) ≡ true
numbered s h =
    let a = all_pass 0 (kind_field s) (drop 1 (slip_tests s)) h in
    let b = all_pass 4 (count_field 1 s) (drop 2 (slip_tests s)) a.1 in
    let c = all_pass 11 (number_at (count_of s) (from s 11)) (drop 3 (slip_tests s)) b.1 in
    (and_parts (has_field (from s 11) 4 4) (ltb (block_number_of s) (count_of s)) c.0).1

-- a slip with no fault has as many digests as its path should
path_long : (s : Bytes) → slip_fault s ≡ None → length (digests (drop 1048 s)) ≡ path_length (block_number_of s) (count_of s)
path_long s h =
    let a = all_pass 0 (kind_field s) (drop 1 (slip_tests s)) h in
    let b = all_pass 4 (count_field 1 s) (drop 2 (slip_tests s)) a.1 in
    let c = all_pass 11 _ (drop 3 (slip_tests s)) b.1 in
    let e = all_pass 18 _ (drop 4 (slip_tests s)) c.1 in
    let f = all_pass 1045 _ (drop 5 (slip_tests s)) e.1 in
    let g = all_pass _ _ [] f.1 in
    let long = eqb-true (length s) (slip_length (block_number_of s) (count_of s)) g.0 in
    length_chunked 32 (length (drop 1048 s) / 32) (drop 1048 s) ∙ simp length-drop (omega arith)

-- the tree's law, at a count that is the number of blocks
true_block : (d : Hash) → Sized d → (bs : List Bytes) (i n : ℕ) (b : Bytes) (ps : List Bytes) → length bs ≡ n → i < n → length ps ≡ path_length i n → path_root d (turns i n) b ps ≡ root d bs →
    (b ≡ get_or bs i []) ⊎ Clash d (path_strings d (turns i n) b ps ++ root_strings d bs)
true_block d size bs i n b ps e =
    subst
    (λ (m : ℕ). i < m → length ps ≡ path_length i m → path_root d (turns i m) b ps ≡ root d bs → (b ≡ get_or bs i []) ⊎ Clash d (path_strings d (turns i m) b ps ++ root_strings d bs))
    e
    (λ below long led. ⊎_map (λ r. r.0) (λ c. c) (sound d size i bs below b ps long led))

pub accepted : AcceptedIsTrue
accepted d size k seal slip x h bs count is-root =
    let y = slipped slip in
    let p = passed (seal_under d k seal) (slip_fault slip) (of_seal y (sealed seal)) (leads d y (sealed seal)) (shown y) x h in
    let counts = eqb-true (count_of slip) (count_of seal) (and_parts (eqb (kind_of slip) (kind_of seal)) (eqb (count_of slip) (count_of seal)) p.fits).1 in
    let led = (bytes_eq-Decides (path_root d (turns y.number y.count) y.block (digests y.path)) (seal_root seal)).0 p.led in
    subst (λ (z : Shown). (z.block ≡ get_or bs z.number []) ⊎ Clash d (slip_strings d y ++ root_strings d bs)) p.shows
    (true_block d size bs y.number y.count y.block (digests y.path) (count ∙ sym counts) (ltb-true y.number y.count (numbered slip p.formed)) (path_long slip p.formed) (led ∙ sym is-root))
