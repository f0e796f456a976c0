-- An index with a record noted, and the loop that notes each record of a log.
-- Assumes nothing.
use Rattle.std.proofs.Common.{◌≡◌, ℕ, zero, suc, ◌+◌, ◌≤◌, true, false, cond, ◌⊎◌, List, [], ◌++◌, length, get_or, set, replicate, Some, None, Option, sym, refl, ap, ◌∙◌, subst, inl, inr, arith}
use Rattle.std.proofs.lemmas.List.{get_or-replicate, get_or-set_same, get_or-set_other}
use Rattle.std.proofs.lemmas.Bool.{both_ways, cases_Bool, cond-true, cond-false}
use Rattle.terms.specs.Levels.{most_blocks}
use Rattle.terms.specs.Places.{inside, record_length, same_place}
use Rattle.terms.specs.declared.place.Place.{Place}
use Rattle.store.proofs.Replies.{same_place_lem}
use Rattle.logstore.specs.Index.{Agrees, slot, slots}
use Rattle.logstore.specs.Records.{Whole, last, last_of, record_at, record_bytes, size, stop, stop_of}
use Rattle.logstore.specs.Sized.{record_is}
use Rattle.logstore.proofs.Slots.{slot_low, slot_same}
use Rattle.logstore.specs.Sized.{last_step}
use Rattle.logstore.proofs.Walks.{last_grown, last_none, size_low, stop_none, stop_step}

-- what an index says after a record is noted
set_slot : (index : List (Option ℕ)) (q p : Place) (at : ℕ) → length index ≡ slots → inside most_blocks q ≡ true → inside most_blocks p ≡ true → get_or (set index (slot q) (Some at)) (slot p) None ≡ cond (same_place q p) (Some at) (get_or index (slot p) None)
set_slot index q p at wide w v = go (cases_Bool (same_place q p))
  where
    go : (same_place q p ≡ true) ⊎ (same_place q p ≡ false) → get_or (set index (slot q) (Some at)) (slot p) None ≡ cond (same_place q p) (Some at) (get_or index (slot p) None)
    go (inl t) = ap (λ s. get_or (set index (slot q) (Some at)) (slot s) None) (sym (same_place_lem q p t)) ∙ get_or-set_same index (slot q) (Some at) None (omega (arith, slot_low q w)) ∙ sym (cond-true _ _ _ t)
    go (inr t) = get_or-set_other index (slot q) (slot p) (Some at) None (λ e. both_ways (same_place q p) t (slot_same q p w v e)) ∙ sym (cond-false _ _ _ t)

-- a blank index says nothing
blank_says : (p : Place) → inside most_blocks p ≡ true → ◌≡◌ {A = Option ℕ} (get_or (replicate slots None) (slot p) None) None
blank_says p w = get_or-replicate slots (slot p) None None (slot_low p w)

pub blank_agrees : (index : List (Option ℕ)) → index ≡ replicate slots None → Agrees [] index
unfolding last
blank_agrees index e p w = ap (λ (z : List (Option ℕ)). get_or z (slot p) None) e ∙ blank_says p w

-- an index agrees with the same bytes under another name
pub agrees_same : (bs bs' : List ℕ) (index index' : List (Option ℕ)) → bs' ≡ bs → index' ≡ index → Agrees bs' index' → Agrees bs index
agrees_same bs bs' index index' e f agrees = subst (Agrees bs) f (subst (λ z. Agrees z index') e agrees)

-- an index agrees with the record that is written behind the last one
pub agrees_grown : (bs r : List ℕ) (index : List (Option ℕ)) (q : Place) → inside most_blocks q ≡ true → length r ≡ record_length q → Whole bs → length index ≡ slots → Agrees bs index → Agrees (bs ++ record_bytes q r) (set index (slot q) (Some (length bs)))
agrees_grown bs r index q w l whole wide agrees p v = set_slot index q p (length bs) wide w v ∙ ap (cond (same_place q p) (Some (length bs))) (agrees p v) ∙ sym (last_grown bs r q w l whole p)

-- what is left of the records comes to what all of them come to
pub record Noted (bs : List ℕ) (index : List (Option ℕ)) (at f : ℕ) : Type 0 where
  pub enough : length bs ≤ at + f
  pub stops : stop f bs at ≡ stop_of bs
  pub finds : (p : Place) → inside most_blocks p ≡ true → last f bs at p (get_or index (slot p) None) ≡ last_of bs p

pub noted_none : (bs : List ℕ) (index : List (Option ℕ)) → index ≡ replicate slots None → Noted bs index 0 (length bs)
noted_none bs index e = record { enough = omega arith; stops = refl; finds = λ p w. ap (λ o. last (length bs) bs 0 p o) (ap (λ (z : List (Option ℕ)). get_or z (slot p) None) e ∙ blank_says p w) }

pub noted_more : (bs : List ℕ) (index : List (Option ℕ)) (at f : ℕ) (q : Place) → length index ≡ slots → record_at bs at ≡ Some q → Noted bs index at f → (g : ℕ) × Noted bs (set index (slot q) (Some at)) (at + size q) g
noted_more bs index at zero q wide e n = absurd (omega (arith, n.enough, (record_is bs at q e).fits, size_low q))
noted_more bs index at (suc f) q wide e n = (
  f,
  record {
    enough = omega (arith, n.enough, size_low q);
    stops = sym (stop_step f bs at (Some q) e) ∙ n.stops;
    finds = λ p v. ap (λ o. last f bs (at + size q) p o) (set_slot index q p at wide (record_is bs at q e).within v) ∙ sym (last_step f bs at p (get_or index (slot p) None) (Some q) e) ∙ n.finds p v;
  },
)

pub noted_all : (bs : List ℕ) (index : List (Option ℕ)) (at f : ℕ) → record_at bs at ≡ None → Noted bs index at f → (at ≡ stop_of bs) × Agrees bs index
noted_all bs index at f e n = (sym (stop_none f bs at e) ∙ n.stops, λ p v. sym (last_none f bs at p (get_or index (slot p) None) e) ∙ n.finds p v)
