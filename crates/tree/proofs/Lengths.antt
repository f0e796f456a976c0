-- The length of a path: its steps, that the level does not matter, and that the RFC's equations have one solution.
use Rattle.std.proofs.Common.{◌≡◌, ℕ, zero, suc, ◌-◌, ◌^◌, ◌<◌, ◌≤◌, sym, refl, ap, ◌∙◌, ⊎_elim, le_refl, le_of_lt, arith, pow_pos}
use Rattle.std.proofs.lemmas.Bool.{le-leb, lt-leb, lt-ltb, le-ltb, cases_lt}
use Rattle.tree.proofs.Level.{own_level, below_pow}
use Rattle.tree.specs.Laws.{RfcLength}
use Rattle.tree.specs.Tree.{path_length_at, path_length}

length_low : (L i n : ℕ) → n ≤ 2 ^ L → path_length_at (suc L) i n ≡ path_length_at L i n
unfolding path_length_at
length_low L i n h = rw (le-leb n (2 ^ L) h, path_length_at)

length_left : (L i n : ℕ) → i < 2 ^ L → 2 ^ L < n → path_length_at (suc L) i n ≡ suc (path_length_at L i (2 ^ L))
unfolding path_length_at
length_left L i n l h = rw (lt-leb n (2 ^ L) h, lt-ltb i (2 ^ L) l, path_length_at)

length_right : (L i n : ℕ) → 2 ^ L ≤ i → 2 ^ L < n → path_length_at (suc L) i n ≡ suc (path_length_at L (i - 2 ^ L) (n - 2 ^ L))
unfolding path_length_at
length_right L i n r h = rw (lt-leb n (2 ^ L) h, le-ltb i (2 ^ L) r, path_length_at)

-- at any level that holds n
pub length_is : (L i n : ℕ) → n ≤ 2 ^ L → path_length i n ≡ path_length_at L i n
length_is L i n = own_level (λ k. path_length_at k i n) n (λ k. length_low k i n) L

pub length_rfc : RfcLength path_length
unfolding path_length_at
length_rfc =
    record {
      one = λ i. refl;
      on_left = λ L i n s l. length_is (suc L) i n s.most ∙ length_left L i n l s.more ∙ ap (λ (p : ℕ). suc p) (sym (length_is L i (2 ^ L) (le_refl (2 ^ L))));
      on_right = λ L i n s r. length_is (suc L) i n s.most ∙ length_right L i n r s.more ∙ ap (λ (p : ℕ). suc p) (sym (length_is L (i - 2 ^ L) (n - 2 ^ L) (omega arith)));
    }

module _ (l : ℕ → ℕ → ℕ) (e : RfcLength l) where
  length_only : (L i n : ℕ) → 1 ≤ n → n ≤ 2 ^ L → l i n ≡ path_length_at L i n
  unfolding path_length_at
  length_only zero i n o h = let one : n ≡ 1 = omega arith in rw one (e.one i)
  length_only (suc L) i n o h =
      ⊎_elim
      (λ (m : 2 ^ L < n).
      ⊎_elim
      (λ (k : i < 2 ^ L).
      e.on_left L i n (record { more = m; most = h }) k ∙ ap (λ (p : ℕ). suc p) (length_only L i (2 ^ L) (pow_pos L) (le_refl (2 ^ L))) ∙ sym (length_left L i n k m))
      (λ (k : 2 ^ L ≤ i).
      e.on_right L i n (record { more = m; most = h }) k ∙ ap (λ (p : ℕ). suc p) (length_only L (i - 2 ^ L) (n - 2 ^ L) (omega arith) (omega arith)) ∙ sym (length_right L i n k m))
      (cases_lt i (2 ^ L)))
      (λ (m : n ≤ 2 ^ L). length_only L i n o m ∙ sym (length_low L i n m))
      (cases_lt (2 ^ L) n)

  pub length_alone : (i n : ℕ) → 1 ≤ n → l i n ≡ path_length i n
  length_alone i n o = length_only n i n o (le_of_lt (below_pow n))
