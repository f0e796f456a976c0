-- The records of a log from an offset on: where they stop, and which is the last one for a place.
-- Assumes nothing.
use Rattle.std.specs.Prelude.{◌≡◌, ℕ, zero, suc, ◌+◌, ◌<◌, ◌≤◌, true, false, cond, ◌⊎◌, List, ◌++◌, length, take, drop, Some, None, Option}
use Rattle.std.proofs.Common.{inl, inr, sym, subst, ◌∙◌, arith}
use Rattle.std.proofs.Math.Path.{refl, ap, fun_ext}
use Rattle.std.proofs.lemmas.List.{append_assoc, drop-append-le, drop_at, length-append, length-drop, length-take-le, take_all, take-append-drop, take-append-le, take-take}
use Rattle.std.proofs.lemmas.Bool.{cases_Bool, cond-true, cond-false}
use Rattle.terms.specs.Levels.{most_blocks}
use Rattle.terms.specs.Places.{inside, record_length, same_place}
use Rattle.terms.specs.declared.place.Place.{Place}
use Rattle.terms.specs.declared.place.Place.TheVariants.{Block, Node}
use Rattle.store.specs.Store.{written}
use Rattle.store.proofs.Replies.{same_place_lem}
use Rattle.logstore.specs.Laws.{EmptyLog, Ends, EndsInARecord, LastRecordCounts, OneRecordMore, StopsAtNoRecord}
use Rattle.logstore.specs.Records.{Whole, content_at, header, header_length, last, last_of, log_table, record_at, record_bytes, size, stop}
use Rattle.logstore.specs.Sized.{Fits, last_of_fits, last_step, record_is}
use Rattle.logstore.proofs.Forms.{record_cut, record_end, record_more, record_new}

-- one step, by the record that stands at the offset
pub stop_step : (f : ℕ) (bs : List ℕ) (at : ℕ) (o : Option Place) → record_at bs at ≡ o → stop (suc f) bs at ≡ elim o [ None ↦ at | Some q ↦ stop f bs (at + size q) ]
unfolding stop
stop_step f bs at o e = ap (λ (x : Option Place). elim x [ None ↦ at | Some q ↦ stop f bs (at + size q) ]) e

pub stop_none : (f : ℕ) (bs : List ℕ) (at : ℕ) → record_at bs at ≡ None → stop f bs at ≡ at
unfolding stop
stop_none zero bs at e = refl
stop_none (suc f) bs at e = stop_step f bs at None e

pub last_none : (f : ℕ) (bs : List ℕ) (at : ℕ) (p : Place) (before : Option ℕ) → record_at bs at ≡ None → last f bs at p before ≡ before
unfolding last
last_none zero bs at p before e = refl
last_none (suc f) bs at p before e = last_step f bs at p before None e

-- a record has a byte at least
pub size_low : (p : Place) → 1 ≤ size p
size_low (Block i) = omega arith
size_low (Node l j) = omega arith

pub header_length_lem : (p : Place) → length (header p) ≡ header_length p
header_length_lem (Block i) = refl
header_length_lem (Node l j) = refl

pub record_length_lem : (p : Place) (r : List ℕ) → length r ≡ record_length p → length (record_bytes p r) ≡ size p
record_length_lem p r l = omega (arith, length-append (header p) r, header_length_lem p)

-- where they stop, no record stands
stops : (f : ℕ) (bs : List ℕ) (at : ℕ) → at ≤ length bs → length bs ≤ at + f → (record_at bs (stop f bs at) ≡ None) × (stop f bs at ≤ length bs)
unfolding stop
stops zero bs at low all = (record_end bs at (omega arith), low)
stops (suc f) bs at low all = go (record_at bs at) refl (λ q. stops f bs (at + size q))
  where
    Stopped : ℕ → Type 0
    Stopped n = (record_at bs n ≡ None) × (n ≤ length bs)

    go : (o : Option Place) → record_at bs at ≡ o → ((q : Place) → at + size q ≤ length bs → length bs ≤ at + size q + f → Stopped (stop f bs (at + size q))) → Stopped (stop (suc f) bs at)
    go None e rest = subst Stopped (sym (stop_step f bs at None e)) (e, low)
    go (Some q) e rest = subst Stopped (sym (stop_step f bs at (Some q) e)) (rest q (record_is bs at q e).fits (omega (arith, size_low q)))

-- no bytes hold no record
pub empty_log : EmptyLog
unfolding stop last
empty_log = (refl, λ p. refl)

-- a record more behind them: they stop at its end, and it is the last one for its place
abbrev Grown : ℕ → ℕ → List ℕ → List ℕ → ℕ → Place → Type 0
Grown f g bs x at q = (stop g (bs ++ x) at ≡ length (bs ++ x)) × ((p : Place) (before : Option ℕ) → last g (bs ++ x) at p before ≡ cond (same_place q p) (Some (length bs)) (last f bs at p before))

module _ (bs x : List ℕ) (q : Place) (new : record_at (bs ++ x) (length bs) ≡ Some q) (long : length x ≡ size q) where
  grown_length : length (bs ++ x) ≡ length bs + size q
  grown_length = omega (arith, length-append bs x)

  grow_end : (f g at : ℕ) → at ≡ length bs → ((p : Place) (before : Option ℕ) → last f bs at p before ≡ before) → Grown f (suc g) bs x at q
  grow_end f g at e old =
      let here : record_at (bs ++ x) at ≡ Some q = ap (record_at (bs ++ x)) e ∙ new in
      let past : record_at (bs ++ x) (at + size q) ≡ None = record_end (bs ++ x) (at + size q) (omega (arith, grown_length)) in (
        stop_step g (bs ++ x) at (Some q) here ∙ stop_none g (bs ++ x) (at + size q) past ∙ omega (arith, grown_length),
        λ p before. last_step g (bs ++ x) at p before (Some q) here ∙ last_none g (bs ++ x) (at + size q) p (cond (same_place q p) (Some at) before) past ∙ ap (λ n. cond (same_place q p) (Some n) before) e ∙ ap (cond (same_place q p) (Some (length bs))) (sym (old p before)),
      )

  grow : (f g at : ℕ) → stop f bs at ≡ length bs → f < g → Grown f g bs x at q
  unfolding stop last
  grow f zero at e lt = absurd (omega arith)
  grow zero (suc g) at e lt = grow_end zero g at e (λ p before. refl)
  grow (suc f) (suc g) at e lt = go (record_at bs at) refl (λ s d. grow f g (at + size s) d (omega arith))
    where
      go : (o : Option Place) → record_at bs at ≡ o → ((s : Place) → stop f bs (at + size s) ≡ length bs → Grown f g bs x (at + size s) q) → Grown (suc f) (suc g) bs x at q
      go None h more = grow_end (suc f) g at (sym (stop_step f bs at None h) ∙ e) (λ p before. last_step f bs at p before None h)
      go (Some s) h more =
          let again = more s (sym (stop_step f bs at (Some s) h) ∙ e) in
          let here : record_at (bs ++ x) at ≡ Some s = record_more bs x at s h in (
            stop_step g (bs ++ x) at (Some s) here ∙ again.0,
            λ p before. last_step g (bs ++ x) at p before (Some s) here ∙ again.1 p (cond (same_place s p) (Some at) before) ∙ ap (cond (same_place q p) (Some (length bs))) (sym (last_step f bs at p before (Some s) h)),
          )

-- the content of a record, with bytes behind it, and of the record that is written behind the last one
pub content_more : (bs x : List ℕ) (p : Place) (at : ℕ) → at + size p ≤ length bs → content_at (bs ++ x) p at ≡ content_at bs p at
content_more bs x p at fits =
    ap (take (record_length p)) (drop-append-le (at + header_length p) bs x (omega arith))
    ∙ take-append-le (record_length p) (drop (at + header_length p) bs) x (omega (arith, length-drop (at + header_length p) bs))

content_new : (bs r : List ℕ) (p : Place) → length r ≡ record_length p → content_at (bs ++ record_bytes p r) p (length bs) ≡ r
content_new bs r p l =
    let front : length (bs ++ header p) ≡ length bs + header_length p = omega (arith, length-append bs (header p), header_length_lem p) in
    ap (λ z. take (record_length p) (drop (length bs + header_length p) z)) (sym (append_assoc bs (header p) r))
    ∙ ap (take (record_length p)) (drop_at (bs ++ header p) r (length bs + header_length p) front)
    ∙ take_all (record_length p) r (omega arith)

-- so a record more sets its place
module _ (bs x : List ℕ) (q : Place) (new : record_at (bs ++ x) (length bs) ≡ Some q) (long : length x ≡ size q) (whole : Whole bs) where
  grows : Grown (length bs) (length (bs ++ x)) bs x 0 q
  grows = grow bs x q new long (length bs) (length (bs ++ x)) 0 whole (omega (arith, grown_length bs x q new long, size_low q))

  last_more : (p : Place) → last_of (bs ++ x) p ≡ cond (same_place q p) (Some (length bs)) (last_of bs p)
  last_more p = grows.1 p None

  whole_more : Whole (bs ++ x)
  whole_more = grows.0

  table_here : (p : Place) (o : Option ℕ) → Fits bs p o → (same_place q p ≡ true) ⊎ (same_place q p ≡ false) → elim (cond (same_place q p) (Some (length bs)) o) [ None ↦ None | Some at ↦ Some (content_at (bs ++ x) p at) ] ≡ cond (same_place q p) (Some (content_at (bs ++ x) q (length bs))) (elim o [ None ↦ None | Some at ↦ Some (content_at bs p at) ])
  table_here p o fits (inl t) =
      ap (λ (z : Option ℕ). elim z [ None ↦ None | Some at ↦ Some (content_at (bs ++ x) p at) ]) (cond-true (same_place q p) (Some (length bs)) o t)
      ∙ ap (λ s. Some (content_at (bs ++ x) s (length bs))) (sym (same_place_lem q p t))
      ∙ sym (cond-true _ _ _ t)
  table_here p None fits (inr t) = ap (λ (z : Option ℕ). elim z [ None ↦ None | Some at ↦ Some (content_at (bs ++ x) p at) ]) (cond-false (same_place q p) (Some (length bs)) None t) ∙ sym (cond-false _ _ _ t)
  table_here p (Some n) fits (inr t) =
      ap (λ (z : Option ℕ). elim z [ None ↦ None | Some at ↦ Some (content_at (bs ++ x) p at) ]) (cond-false (same_place q p) (Some (length bs)) (Some n) t)
      ∙ ap Some (content_more bs x p n fits)
      ∙ sym (cond-false _ _ _ t)

  table_more : log_table (bs ++ x) ≡ written (log_table bs) q (content_at (bs ++ x) q (length bs))
  table_more = fun_ext (λ p. ap (λ (z : Option ℕ). elim z [ None ↦ None | Some at ↦ Some (content_at (bs ++ x) p at) ]) (last_more p) ∙ table_here p (last_of bs p) (last_of_fits bs p) (cases_Bool (same_place q p)))

-- one that is written behind the last one
module _ (bs r : List ℕ) (q : Place) (w : inside most_blocks q ≡ true) (l : length r ≡ record_length q) (whole : Whole bs) where
  pub last_grown : (p : Place) → last_of (bs ++ record_bytes q r) p ≡ cond (same_place q p) (Some (length bs)) (last_of bs p)
  last_grown = last_more bs (record_bytes q r) q (record_new bs r q w l) (record_length_lem q r l) whole

  pub whole_grown : Whole (bs ++ record_bytes q r)
  whole_grown = whole_more bs (record_bytes q r) q (record_new bs r q w l) (record_length_lem q r l) whole

  pub table_grown : log_table (bs ++ record_bytes q r) ≡ written (log_table bs) q r
  table_grown = table_more bs (record_bytes q r) q (record_new bs r q w l) (record_length_lem q r l) whole ∙ ap (written (log_table bs) q) (content_new bs r q l)

pub one_record_more : OneRecordMore
one_record_more bs r p whole w l = (whole_grown bs r p w l whole, table_grown bs r p w l whole)

-- one that ends bytes of which the front is a log
module _ (bs : List ℕ) (at : ℕ) (q : Place) (whole : Whole (take at bs)) (e : record_at bs at ≡ Some q) (ends : at + size q ≡ length bs) where
  front : length (take at bs) ≡ at
  front = length-take-le at bs (omega arith)

  joined : take at bs ++ drop at bs ≡ bs
  joined = take-append-drop at bs

  new_there : record_at (take at bs ++ drop at bs) (length (take at bs)) ≡ Some q
  new_there = ap (λ z. record_at z (length (take at bs))) joined ∙ ap (record_at bs) front ∙ e

  long_there : length (drop at bs) ≡ size q
  long_there = omega (arith, length-drop at bs)

  whole_ended : Whole bs
  whole_ended = subst Whole joined (whole_more (take at bs) (drop at bs) q new_there long_there whole)

  table_ended : log_table bs ≡ written (log_table (take at bs)) q (content_at bs q at)
  table_ended =
      sym (ap log_table joined)
      ∙ table_more (take at bs) (drop at bs) q new_there long_there whole
      ∙ ap (λ z. written (log_table (take at bs)) q (content_at z q (length (take at bs)))) joined
      ∙ ap (λ n. written (log_table (take at bs)) q (content_at bs q n)) front

pub last_record_counts : LastRecordCounts
last_record_counts bs at p whole e ends = table_ended bs at p whole e ends

-- the bytes up to a record's end are a log where those before it are
whole_step : (bs : List ℕ) (at : ℕ) (q : Place) → Whole (take at bs) → record_at bs at ≡ Some q → Whole (take (at + size q) bs)
whole_step bs at q whole e =
    let fits = (record_is bs at q e).fits in
    let less : at ≤ at + size q = omega arith in
    whole_ended (take (at + size q) bs) at q (subst Whole (sym (take-take at (at + size q) bs less)) whole) (record_cut bs at (at + size q) q (omega arith) fits e) (sym (length-take-le (at + size q) bs fits))

-- so what lies before the stop is all records
whole_until : (f : ℕ) (bs : List ℕ) (at : ℕ) → Whole (take at bs) → Whole (take (stop f bs at) bs)
unfolding stop
whole_until zero bs at whole = whole
whole_until (suc f) bs at whole = go (record_at bs at) refl (λ q. whole_until f bs (at + size q))
  where
    go : (o : Option Place) → record_at bs at ≡ o → ((q : Place) → Whole (take (at + size q) bs) → Whole (take (stop f bs (at + size q)) bs)) → Whole (take (stop (suc f) bs at) bs)
    go None e rest = subst (λ n. Whole (take n bs)) (sym (stop_step f bs at None e)) whole
    go (Some q) e rest = subst (λ n. Whole (take n bs)) (sym (stop_step f bs at (Some q) e)) (rest q (whole_step bs at q whole e))

pub stops_at_no_record : StopsAtNoRecord
stops_at_no_record bs = let stopped = stops (length bs) bs 0 (omega arith) (omega arith) in (stopped.0, stopped.1, whole_until (length bs) bs 0 empty_log.0)

-- and a log that is not empty ends in a record
ends_from : (f : ℕ) (bs : List ℕ) (at : ℕ) → Whole (take at bs) → stop f bs at ≡ length bs → (at ≡ length bs) ⊎ Ends bs
unfolding stop
ends_from zero bs at whole e = inl e
ends_from (suc f) bs at whole e = go (record_at bs at) refl (λ q. ends_from f bs (at + size q))
  where
    go : (o : Option Place) → record_at bs at ≡ o → ((q : Place) → Whole (take (at + size q) bs) → stop f bs (at + size q) ≡ length bs → (at + size q ≡ length bs) ⊎ Ends bs) → (at ≡ length bs) ⊎ Ends bs
    go None h rest = inl (sym (stop_step f bs at None h) ∙ e)
    go (Some q) h rest = inr (here (rest q (whole_step bs at q whole h) (sym (stop_step f bs at (Some q) h) ∙ e)))
      where
        here : (at + size q ≡ length bs) ⊎ Ends bs → Ends bs
        here (inl last) = (at, (q, (whole, h, last)))
        here (inr ends) = ends

pub ends_in_a_record : EndsInARecord
ends_in_a_record bs whole = go (ends_from (length bs) bs 0 empty_log.0 whole)
  where
    go : (0 ≡ length bs) ⊎ Ends bs → (length bs ≡ 0) ⊎ Ends bs
    go (inl e) = inl (sym e)
    go (inr ends) = inr ends
