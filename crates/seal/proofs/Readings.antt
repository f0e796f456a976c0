-- Readings of one field after another, and the first bad one.
use Rattle.std.proofs.Common.{◌≡◌, ℕ, ◌+◌, ◌≤◌, Bool, true, false, cond, not, ◌&&◌, eqb, ltb, leb, List, ◌∷◌, length, get_or, Some, None, Ok, Err, Decides, Option, Result, sym, refl, ap, ◌∙◌, arith, rules}
use Rattle.std.proofs.lemmas.Slice.Eq.{slice_eq-Decides, bytes_eq-Decides}
use Rattle.std.specs.Cmp.{unsigned_Decides}
use Rattle.std.specs.Cmp.Lexicographic.{pointwise}
use Rattle.std.specs.Str.{bytes_eq}
use Rattle.std.proofs.lemmas.Bool.{and_parts, and_from, le-leb, leb-true, ltb-true, ltb-false, ne_eqb, eq-eqb, not-false, cond-true}
use Rattle.fields.specs.Fields.{Reading, from, has_field, big2, past, after, ended}
use Rattle.fields.specs.declared.bad_field.BadField.{BadField}
use Rattle.hash.specs.Hash.{Bytes}
use Rattle.seal.specs.Forms.{first_bad, tested, unless_fault, kind_of, kind_field, count_of, count_field, head_answer, head_after}
use Rattle.seal.specs.declared.header.Header.{Header}

-- a bad field at an offset
abbrev pub bad_at : ℕ → BadField
bad_at i = record { at = i }

-- a test that gave a value, or what is wrong
pub good : {X E : Type 0} (b : Bool) (e : E) (v x : X) → Ok x ≡ tested b e v → (b ≡ true) × (x ≡ v)
good true e v x h = (refl, cc)
good false e v x h = let z : ◌≡◌ {A = ℕ} 0 1 = cc in absurd (omega arith)

pub bad : {X E : Type 0} (b : Bool) (e : E) (v : X) (f : E) → Err f ≡ tested b e v → (b ≡ false) × (f ≡ e)
bad true e v f h = let z : ◌≡◌ {A = ℕ} 0 1 = cc in absurd (omega arith)
bad false e v f h = (refl, cc)

-- a reading goes past a field that is there
pub goes_past : (r : Reading) (t n : ℕ) → has_field r t n ≡ true → after r t n ≡ past r n
goes_past r t n = cond-true (has_field r t n) (past r n) r

-- a field that is there ends in time
pub field_ends : (r : Reading) (t n : ℕ) → has_field r t n ≡ true → r.at + (n + 3) ≤ r.end
field_ends r t n h =
    let first = leb (r.at + (n + 3)) r.end && eqb (get_or r.bytes r.at 0) t in
    leb-true (r.at + (n + 3)) r.end (and_parts (leb (r.at + (n + 3)) r.end) (eqb (get_or r.bytes r.at 0) t) (and_parts first (eqb (big2 r.bytes (r.at + 1)) n) h).0).0

-- a field that is there
pub field_there : (r : Reading) (t n : ℕ) → r.at + (n + 3) ≤ r.end → get_or r.bytes r.at 0 ≡ t → big2 r.bytes (r.at + 1) ≡ n → has_field r t n ≡ true
field_there r t n h tag size =
    let ends = le-leb (r.at + (n + 3)) r.end h in
    let tagged = eq-eqb (get_or r.bytes r.at 0) t tag in
    and_from (leb (r.at + (n + 3)) r.end && eqb (get_or r.bytes r.at 0) t) (eqb (big2 r.bytes (r.at + 1)) n)
    (and_from (leb (r.at + (n + 3)) r.end) (eqb (get_or r.bytes r.at 0) t) ends tagged) (eq-eqb (big2 r.bytes (r.at + 1)) n size)

-- the first test that fails
pub pass : (at : ℕ) (b : Bool) (ts : List (ℕ × Bool)) → b ≡ true → first_bad ((at, b) ∷ ts) ≡ first_bad ts
pass at true ts h = refl
pass at false ts h = let z : ◌≡◌ {A = ℕ} 0 1 = cc in absurd (omega arith)

pub stop : (at : ℕ) (b : Bool) (ts : List (ℕ × Bool)) → b ≡ false → first_bad ((at, b) ∷ ts) ≡ Some at
stop at false ts h = refl
stop at true ts h = let z : ◌≡◌ {A = ℕ} 0 1 = cc in absurd (omega arith)

-- no test fails
pub all_pass : (at : ℕ) (b : Bool) (ts : List (ℕ × Bool)) → first_bad ((at, b) ∷ ts) ≡ None → (b ≡ true) × (first_bad ts ≡ None)
all_pass at true ts h = (refl, h)
all_pass at false ts h = let z : ◌≡◌ {A = ℕ} 0 1 = cc in absurd (omega arith)

-- the two fields in front: what was read, and the tests
pub record Head (least : ℕ) (s : Bytes) (h : Header) : Type 0 where
  pub kind_test : kind_field s ≡ true
  pub count_test : count_field least s ≡ true
  pub says : h ≡ record { kind = kind_of s; count = count_of s }

pub head_good : (least : ℕ) (s : Bytes) (h : Header) → Ok h ≡ head_answer least (from s 0) → Head least s h
head_good least s h e = by (kind_field s) refl e
  where
    says : Header
    says = record { kind = kind_of s; count = count_of s }

    by : (b : Bool) → kind_field s ≡ b → Ok h ≡ cond b (tested (count_field least s) (bad_at 4) says) (Err (bad_at 0)) → Head least s h
    by true p f = let g = good (count_field least s) (bad_at 4) says h f in record { kind_test = p; count_test = g.0; says = g.1 }
    by false p f = let z : ◌≡◌ {A = ℕ} 0 1 = cc in absurd (omega arith)

module _ (least : ℕ) (s : Bytes) (h : Header) (f : Head least s h) where
  count_there : (has_field (from s 4) 2 4 && leb least (count_of s) ≡ true) × (leb (count_of s) 4096 ≡ true)
  count_there = and_parts (has_field (from s 4) 2 4 && leb least (count_of s)) (leb (count_of s) 4096) f.count_test

  pub head_few : (least ≤ h.count) × (h.count ≤ 4096)
  head_few =
      let low = (and_parts (has_field (from s 4) 2 4) (leb least (count_of s)) count_there.0).1 in
      rw f.says (leb-true least (count_of s) low, leb-true (count_of s) 4096 count_there.1)

  pub past_head : head_after (from s 0) ≡ from s 11
  past_head =
      cond-true (kind_field s) (after (from s 4) 2 4) (after (from s 0) 1 1) f.kind_test
      ∙ goes_past (from s 4) 2 4 (and_parts (has_field (from s 4) 2 4) (leb least (count_of s)) count_there.0).0

  pub head_passes : (rest : List (ℕ × Bool)) → first_bad ((0, kind_field s) ∷ (4, count_field least s) ∷ rest) ≡ first_bad rest
  head_passes rest = pass 0 (kind_field s) ((4, count_field least s) ∷ rest) f.kind_test ∙ pass 4 (count_field least s) rest f.count_test

pub head_stops : (least : ℕ) (s : Bytes) (rest : List (ℕ × Bool)) (e : BadField) → ◌≡◌ {A = Result Header BadField} (Err e) (head_answer least (from s 0)) →
    (i : ℕ) × (first_bad ((0, kind_field s) ∷ (4, count_field least s) ∷ rest) ≡ Some i) × (e ≡ bad_at i)
head_stops least s rest e f = by (kind_field s) refl f
  where
    says : Header
    says = record { kind = kind_of s; count = count_of s }

    by : (b : Bool) → kind_field s ≡ b → ◌≡◌ {A = Result Header BadField} (Err e) (cond b (tested (count_field least s) (bad_at 4) says) (Err (bad_at 0))) →
        (i : ℕ) × (first_bad ((0, kind_field s) ∷ (4, count_field least s) ∷ rest) ≡ Some i) × (e ≡ bad_at i)
    by true p g =
        let b = bad (count_field least s) (bad_at 4) says e g in
        (4, pass 0 (kind_field s) ((4, count_field least s) ∷ rest) p ∙ stop 4 (count_field least s) rest b.0, b.1)
    by false p g = (0, stop 0 (kind_field s) ((4, count_field least s) ∷ rest) p, cc)

-- the answer at the first fault, and where there is none
pub at_fault : {X : Type 0} (o : Option ℕ) (v : X) (i : ℕ) (e : BadField) → o ≡ Some i → e ≡ bad_at i → Err e ≡ unless_fault o v
at_fault None v i e f p = let z : ◌≡◌ {A = ℕ} 0 1 = cc in absurd (omega arith)
at_fault (Some j) v i e f p = let q : j ≡ i = cc in ap (λ (x : BadField). Err x) (p ∙ ap bad_at (sym q))

pub no_fault : {X : Type 0} (o : Option ℕ) (v x : X) → o ≡ None → x ≡ v → Ok x ≡ unless_fault o v
no_fault None v x f p = cc
no_fault (Some i) v x f p = let z : ◌≡◌ {A = ℕ} 0 1 = cc in absurd (omega arith)

-- what is left from i on
pub extra : (s : Bytes) (i : ℕ) (e : BadField) → Err e ≡ ended (from s i) → (eqb (length s) i ≡ false) × (e ≡ bad_at i)
extra s i e h =
    let b = bad (not (ltb i (length s))) (bad_at i) (tt {0}) e (turned (ltb i (length s)) h) in
    (ne_eqb (length s) i (λ p. let l = ltb-true i (length s) (not-false _ b.0) in omega arith), b.1)
  where
    turned : (t : Bool) → ◌≡◌ {A = Result (Unit {0}) BadField} (Err e) (cond t (Err (bad_at i)) (Ok tt)) → ◌≡◌ {A = Result (Unit {0}) BadField} (Err e) (tested (not t) (bad_at i) tt)
    turned true f = f
    turned false f = f

pub none_extra : (s : Bytes) (i : ℕ) (u : Unit {0}) → i ≤ length s → Ok u ≡ ended (from s i) → eqb (length s) i ≡ true
none_extra s i u h f = eq-eqb (length s) i (omega (arith, ltb-false i (length s) (kept (ltb i (length s)) f)))
  where
    kept : (t : Bool) → ◌≡◌ {A = Result (Unit {0}) BadField} (Ok u) (cond t (Err (bad_at i)) (Ok tt)) → t ≡ false
    kept true f = let z : ◌≡◌ {A = ℕ} 0 1 = cc in absurd (omega arith)
    kept false f = refl

-- the fault, or that there is none, from the answer
pub fault_free : {X : Type 0} (o : Option ℕ) (v x : X) → Ok x ≡ unless_fault o v → (o ≡ None) × (x ≡ v)
fault_free None v x h = (refl, cc)
fault_free (Some i) v x h = let z : ◌≡◌ {A = ℕ} 0 1 = cc in absurd (omega arith)

pub faulty : {X : Type 0} (o : Option ℕ) (v : X) (e : BadField) → Err e ≡ unless_fault o v → (i : ℕ) × (o ≡ Some i) × (e ≡ bad_at i)
faulty None v e h = let z : ◌≡◌ {A = ℕ} 0 1 = cc in absurd (omega arith)
faulty (Some i) v e h = (i, refl, cc)

-- what `==` and `!=` say of bytes, as a test
pub same_test : (xs ys : Bytes) (r : Bool) → r ≡ pointwise eqb xs ys → r ≡ bytes_eq xs ys
same_test xs ys r m = let h : Decides r (xs ≡ ys) = slice_eq-Decides unsigned_Decides xs ys r m in search (rules, bytes_eq-Decides)

pub other_test : (xs ys : Bytes) (r : Bool) → r ≡ not (pointwise eqb xs ys) → r ≡ not (bytes_eq xs ys)
other_test xs ys r e = e ∙ ap not (same_test xs ys (pointwise eqb xs ys) refl)
