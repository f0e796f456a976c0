-- Why each record of a log has its place's length: the proof of a law of the interface, which src/ cites.
-- Assumes nothing.
use Rattle.std.specs.Prelude.{◌≡◌, ℕ, ◌+◌, ◌≤◌, true, false, cond, ◌⊎◌, List, length, Some, None, Option, slice_index, refl, zero, suc}
use Rattle.std.proofs.Common.{inl, inr, sym, ap, subst, ◌∙◌, arith}
use Rattle.std.proofs.lemmas.List.{length-drop, length-take}
use Rattle.std.proofs.lemmas.Bool.{and_parts, eqb-true, leb-true, cases_Bool, cond-true, cond-false}
use Rattle.terms.specs.Levels.{most_blocks}
use Rattle.terms.specs.Places.{inside, record_length, same_place}
use Rattle.terms.specs.declared.place.Place.{Place}
use Rattle.terms.specs.declared.place.Place.TheVariants.{Block, Node}
use Rattle.fields.specs.Fields.{Reading, big2, from, has_field}
use Rattle.logstore.specs.Records.{limited, record_at, size, content_at, last, last_of, log_table}
use Rattle.store.proofs.Replies.{same_place_lem}
use Rattle.logstore.specs.Laws.{ShownRecordsStand}

-- a field that stands there
pub record Field (r : Reading) (t n : ℕ) : Type 0 where
  pub fits : r.at + (n + 3) ≤ r.end
  pub tag : slice_index r.bytes r.at ≡ t
  pub long : big2 r.bytes (r.at + 1) ≡ n

pub field_of : (r : Reading) (t n : ℕ) → has_field r t n ≡ true → Field r t n
field_of r t n e =
    let p = and_parts _ _ e in
    let q = and_parts _ _ p.0 in
    record { fits = leb-true _ _ q.0; tag = eqb-true _ _ q.1; long = eqb-true _ _ p.1 }

-- the three ways in which bytes stand at an offset
abbrev pub block_at : List ℕ → ℕ → Place
block_at bs at = Block (record { 0 = big2 bs (at + 3) })

abbrev pub node_at : List ℕ → ℕ → Place
node_at bs at = Node (record { 0 = slice_index bs (at + 3) }) (record { 0 = big2 bs (at + 4) })

pub data Stands (bs : List ℕ) (at : ℕ) : Option Place → Type 0 where
  as_block : Field (from bs at) 16 1026 → inside most_blocks (block_at bs at) ≡ true → Stands bs at (Some (block_at bs at))
  as_node : Field (from bs at) 17 35 → inside most_blocks (node_at bs at) ≡ true → Stands bs at (Some (node_at bs at))
  no_record : Stands bs at None

limits : (bs : List ℕ) (at : ℕ) (p : Place) → (inside most_blocks p ≡ true → Stands bs at (Some p)) → Stands bs at (limited p)
limits bs at p stands = go (cases_Bool (inside most_blocks p))
  where
    go : (inside most_blocks p ≡ true) ⊎ (inside most_blocks p ≡ false) → Stands bs at (limited p)
    go (inl t) = subst (Stands bs at) (sym (cond-true (inside most_blocks p) (Some p) None t)) (stands t)
    go (inr f) = subst (Stands bs at) (sym (cond-false (inside most_blocks p) (Some p) None f)) no_record

pub stands : (bs : List ℕ) (at : ℕ) → Stands bs at (record_at bs at)
stands bs at = first (cases_Bool (has_field (from bs at) 16 1026))
  where
    second : (has_field (from bs at) 17 35 ≡ true) ⊎ (has_field (from bs at) 17 35 ≡ false) → Stands bs at (cond (has_field (from bs at) 17 35) (limited (node_at bs at)) None)
    second (inl t) = subst (Stands bs at) (sym (cond-true _ (limited (node_at bs at)) None t)) (limits bs at (node_at bs at) (as_node (field_of (from bs at) 17 35 t)))
    second (inr f) = subst (Stands bs at) (sym (cond-false _ (limited (node_at bs at)) None f)) no_record

    rest : Option Place
    rest = cond (has_field (from bs at) 17 35) (limited (node_at bs at)) None

    first : (has_field (from bs at) 16 1026 ≡ true) ⊎ (has_field (from bs at) 16 1026 ≡ false) → Stands bs at (record_at bs at)
    first (inl t) = subst (Stands bs at) (sym (cond-true _ (limited (block_at bs at)) rest t)) (limits bs at (block_at bs at) (as_block (field_of (from bs at) 16 1026 t)))
    first (inr f) = subst (Stands bs at) (sym (cond-false _ (limited (block_at bs at)) rest f)) (second (cases_Bool (has_field (from bs at) 17 35)))

-- a record stands whole before the end, at a place that is inside
pub record Record (bs : List ℕ) (at : ℕ) (q : Place) : Type 0 where
  pub fits : at + size q ≤ length bs
  pub within : inside most_blocks q ≡ true

pub record_is : (bs : List ℕ) (at : ℕ) (q : Place) → record_at bs at ≡ Some q → Record bs at q
record_is bs at q e = go (record_at bs at) (stands bs at) e
  where
    go : (o : Option Place) → Stands bs at o → o ≡ Some q → Record bs at q
    go (Some p) (as_block f w) h = let same : p ≡ q = cc in subst (Record bs at) same (record { fits = omega (arith, f.fits); within = w })
    go (Some p) (as_node f w) h = let same : p ≡ q = cc in subst (Record bs at) same (record { fits = omega (arith, f.fits); within = w })
    go None no_record h = let z : ◌≡◌ {A = ℕ} 0 1 = cc in absurd (omega arith)

pub last_step : (f : ℕ) (bs : List ℕ) (at : ℕ) (p : Place) (before : Option ℕ) (o : Option Place) → record_at bs at ≡ o → last (suc f) bs at p before ≡ elim o [ None ↦ before | Some q ↦ last f bs (at + size q) p (cond (same_place q p) (Some at) before) ]
unfolding last
last_step f bs at p before o e = ap (λ (x : Option Place). elim x [ None ↦ before | Some q ↦ last f bs (at + size q) p (cond (same_place q p) (Some at) before) ]) e

-- the last record for a place stands within the bytes
abbrev pub Fits : List ℕ → Place → Option ℕ → Type 0
Fits bs p None = Unit {0}
Fits bs p (Some at) = at + size p ≤ length bs

last_fits : (f : ℕ) (bs : List ℕ) (at : ℕ) (p : Place) (before : Option ℕ) → Fits bs p before → Fits bs p (last f bs at p before)
unfolding last
last_fits zero bs at p before fits = fits
last_fits (suc f) bs at p before fits = go (record_at bs at) refl (λ q found. last_fits f bs (at + size q) p found)
  where
    go : (o : Option Place) → record_at bs at ≡ o → ((q : Place) (found : Option ℕ) → Fits bs p found → Fits bs p (last f bs (at + size q) p found)) → Fits bs p (last (suc f) bs at p before)
    go None e more = subst (Fits bs p) (sym (last_step f bs at p before None e)) fits
    go (Some q) e more = subst (Fits bs p) (sym (last_step f bs at p before (Some q) e)) (more q (cond (same_place q p) (Some at) before) (noted (cases_Bool (same_place q p))))
      where
        noted : (same_place q p ≡ true) ⊎ (same_place q p ≡ false) → Fits bs p (cond (same_place q p) (Some at) before)
        noted (inl t) = subst (Fits bs p) (sym (cond-true (same_place q p) (Some at) before t)) (subst (λ s. at + size s ≤ length bs) (same_place_lem q p t) (record_is bs at q e).fits)
        noted (inr t) = subst (Fits bs p) (sym (cond-false (same_place q p) (Some at) before t)) fits

pub last_of_fits : (bs : List ℕ) (p : Place) → Fits bs p (last_of bs p)
last_of_fits bs p = last_fits (length bs) bs 0 p None tt

-- the last record for a place stands where it is found
last_stands : (f : ℕ) (bs : List ℕ) (at : ℕ) (p : Place) (before : Option ℕ) (n : ℕ) → last f bs at p before ≡ Some n → (before ≡ Some n) ⊎ (record_at bs n ≡ Some p)
unfolding last
last_stands zero bs at p before n e = inl e
last_stands (suc f) bs at p before n e = go (record_at bs at) refl (λ q found. last_stands f bs (at + size q) p found n)
  where
    go : (o : Option Place) → record_at bs at ≡ o → ((q : Place) (found : Option ℕ) → last f bs (at + size q) p found ≡ Some n → (found ≡ Some n) ⊎ (record_at bs n ≡ Some p)) → (before ≡ Some n) ⊎ (record_at bs n ≡ Some p)
    go None h more = inl (sym (last_step f bs at p before None h) ∙ e)
    go (Some q) h more = here (cases_Bool (same_place q p)) (more q (cond (same_place q p) (Some at) before) (sym (last_step f bs at p before (Some q) h) ∙ e))
      where
        here : (same_place q p ≡ true) ⊎ (same_place q p ≡ false) → (cond (same_place q p) (Some at) before ≡ Some n) ⊎ (record_at bs n ≡ Some p) → (before ≡ Some n) ⊎ (record_at bs n ≡ Some p)
        here side (inr stands) = inr stands
        here (inl t) (inl found) =
            let is : Some at ≡ Some n = sym (cond-true (same_place q p) (Some at) before t) ∙ found in
            let same : at ≡ n = cc in
            inr (ap (record_at bs) (sym same) ∙ h ∙ ap Some (same_place_lem q p t))
        here (inr t) (inl found) = inl (sym (cond-false (same_place q p) (Some at) before t) ∙ found)

pub shown_records_stand : ShownRecordsStand
shown_records_stand bs r p e = go (last_of bs p) refl (last_of_fits bs p) e
  where
    go : (o : Option ℕ) → last_of bs p ≡ o → Fits bs p o → elim o [ None ↦ None | Some at ↦ Some (content_at bs p at) ] ≡ Some r → (at : ℕ) × ((record_at bs at ≡ Some p) × (at + size p ≤ length bs) × (r ≡ content_at bs p at))
    go None found fits h = let z : ◌≡◌ {A = ℕ} 0 1 = cc in absurd (omega arith)
    go (Some at) found fits h = let same : r ≡ content_at bs p at = cc in (at, (stood (last_stands (length bs) bs 0 p None at found), fits, same))
      where
        stood : (None ≡ Some at) ⊎ (record_at bs at ≡ Some p) → record_at bs at ≡ Some p
        stood (inl never) = let z : ◌≡◌ {A = ℕ} 0 1 = cc in absurd (omega arith)
        stood (inr stands) = stands

-- so each record of the table has its place's length
pub table_sized : (bs r : List ℕ) (p : Place) → log_table bs p ≡ Some r → length r ≡ record_length p
table_sized bs r p e = let shown = shown_records_stand bs r p e in rw (shown.1.2, length-take, length-drop) (omega (arith, shown.1.1))
