-- What `array::from_fn` and an array's `map` make: both hash functions make their arrays by them.
-- Assumes nothing.
use Rattle.std.proofs.Common.{◌≡◌, ℕ, zero, suc, ◌+◌, ◌<◌, ◌≤◌, ◌≢◌, List, map, get_or, sym, refl, ap, ◌∙◌, subst, ⊎_elim, arith}
use denote.Param.Members.{Mut}
use Rattle.std.specs.Array.{IsFromFnResult, IsFromFnResultFrom, IsMapOf, MapsFrom}
use Rattle.std.specs.Fn.{Called}
use Rattle.std.specs.List.{range_with_len}
use Rattle.std.proofs.lemmas.Bool.{cases_eq}
use Rattle.std.proofs.lemmas.List.FromFn.{fill_by_all}

-- each call, from a state that has I, gave v of its index
module _ {F B : Type 0} (g : Mut F (ℕ × Unit {0}) B) (v : ℕ → B) (I : F → Type 0) (step : (p q : F) (i : ℕ) (y : B) → I p → Called g p (i, tt) y q → (y ≡ v i) × I q) where
  each_at : (ys : List B) (p : F) (i n : ℕ) → I p → IsFromFnResultFrom g p ys i n → (k : ℕ) (d : B) → i ≤ k → k < i + n → get_or ys k d ≡ v k
  each_at ys p i zero s h k d low high = let z : ⊥ = omega arith in absurd z
  each_at ys p i (suc n) s h k d low high =
      let e = step p h.0 i h.1 s h.3 in
      ⊎_elim
      (λ (same : k ≡ i). ap (λ (j : ℕ). get_or ys j d) same ∙ h.2.1 d ∙ e.0 ∙ ap v (sym same))
      (λ (other : k ≢ i). each_at ys h.0 (i + 1) n e.1 h.4 k d (omega arith) (omega arith))
      (cases_eq k i)

  pub made : (ys : List B) (p : F) (n : ℕ) (d : B) → I p → IsFromFnResult g p ys n → ys ≡ map v (range_with_len 0 n)
  made ys p n d s r = fill_by_all v ys n d r.long (λ k h. each_at ys p 0 n s r.each k d (omega arith) (omega arith))

-- each call, from a state that has I, gave v of its argument
module _ {F A B : Type 0} (g : Mut F (A × Unit {0}) B) (v : A → B) (I : F → Type 0) (step : (p q : F) (x : A) (y : B) → I p → Called g p (x, tt) y q → (y ≡ v x) × I q) where
  mapped_at : (xs : List A) (ys : List B) (p : F) (i n : ℕ) → I p → MapsFrom g p xs ys i n → (k : ℕ) (d : A) (e : B) → i ≤ k → k < i + n → get_or ys k e ≡ v (get_or xs k d)
  mapped_at xs ys p i zero s h k d b low high = let z : ⊥ = omega arith in absurd z
  mapped_at xs ys p i (suc n) s h k d b low high =
      let e = step p h.0 h.1 h.2 s h.5 in
      ⊎_elim
      (λ (same : k ≡ i). ap (λ (j : ℕ). get_or ys j b) same ∙ h.4.1 b ∙ e.0 ∙ ap v (sym (h.3.1 d)) ∙ ap (λ (j : ℕ). v (get_or xs j d)) (sym same))
      (λ (other : k ≢ i). mapped_at xs ys h.0 (i + 1) n e.1 h.6 k d b (omega arith) (omega arith))
      (cases_eq k i)

  pub mapped : (xs : List A) (ys : List B) (p : F) (n : ℕ) (d : A) (b : B) → I p → IsMapOf g p xs ys n → ys ≡ map (λ k. v (get_or xs k d)) (range_with_len 0 n)
  mapped xs ys p n d b s r = fill_by_all (λ k. v (get_or xs k d)) ys n b r.long (λ k h. mapped_at xs ys p 0 n s r.each k d b (omega arith) (omega arith))

-- one place of what `from_fn` made, where each call leaves the closure as it was
pub made_at : {F B : Type 0} {g : Mut F (ℕ × Unit {0}) B} {f : F} {ys : List B} {n : ℕ} (v : ℕ → B) → IsFromFnResult g f ys n
    → ((i : ℕ) (y : B) (q : F) → Called g f (i, tt) y q → (q ≡ f) × (y ≡ v i)) → (k : ℕ) (d : B) → k < n → get_or ys k d ≡ v k
made_at {F = F} {g = g} {f = f} {ys = ys} {n = n} v m acts k d l =
    each_at g v (λ (p : F). p ≡ f) (λ p q i y e s. let a = acts i y q (subst (λ r. Called g r (i, tt) y q) e s) in (a.1, a.0)) ys f 0 n refl m.each k d (omega arith) (omega arith)
