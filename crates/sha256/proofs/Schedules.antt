-- The words of a block and of the message schedule, and the schedule kept in 16 words.
-- Assumes nothing.
use Rattle.std.proofs.Common.{◌≡◌, ℕ, zero, suc, ◌+◌, ◌-◌, ◌%◌, ◌<◌, ◌≤◌, ◌≢◌, List, [], ◌∷◌, ◌++◌, length, get_or, take, set, sym, refl, ap, ◌∙◌, subst, inl, inr, add-one, arith, get_or-set_other, get_or-set_same, ◌*◌, ◌/◌, drop, w32}
use native.Mathlib.Decide.{le_ind}
use Rattle.std.proofs.lemmas.List.{length-set, length_push, get_or_append_left, get_or_push, get_or-take, get_or-drop, drop-drop, ext_get_or}
use Rattle.std.proofs.lemmas.Bool.{cases_lt}
use Rattle.sha256.specs.Constants.{K}
use Rattle.sha256.specs.Hash.{word, words, next, expand, schedule, round, rounds}
use Rattle.sha256.specs.Ring.{ahead}
use Rattle.sha256.specs.Laws.{FirstWords, LaterWords}
use Rattle.std.specs.Int.{from_be_bytes}
use Rattle.std.specs.Simd.{first_chunks}

-- ---- the words of a block

pub length-words : (M : List ℕ) (n : ℕ) → length (words M n) ≡ n
unfolding words
length-words M zero = refl
length-words M (suc n) = length_push (words M n) (word M n) ∙ add-one (length (words M n)) ∙ ap suc (length-words M n)

-- one more word after n of them
module _ (xs : List ℕ) (n x : ℕ) (e : length xs ≡ n) where
  before : (t : ℕ) → t < n → get_or (xs ++ x ∷ []) t 0 ≡ get_or xs t 0
  before t h = get_or_append_left xs (x ∷ []) 0 t (omega arith)

  here : (t : ℕ) → t ≡ n → get_or (xs ++ x ∷ []) t 0 ≡ x
  here t h = get_or_push xs x 0 t (omega arith)

words_stay : (M : List ℕ) (t m : ℕ) → suc t ≤ m → get_or (words M m) t 0 ≡ word M t
unfolding words
words_stay M t =
    le_ind (λ (m : ℕ). get_or (words M m) t 0 ≡ word M t)
    (here (words M t) t (word M t) (length-words M t) t refl)
    (λ m h e. before (words M m) m (word M m) (length-words M m) t (omega arith) ∙ e)

-- the chunk at t
pub chunk_at : {X : Type 0} (n k : ℕ) (xs : List X) (t : ℕ) (d : List X) → t < k → get_or (first_chunks n k xs) t d ≡ take n (drop (n * t) xs)
chunk_at n zero xs t d h = absurd (omega arith)
chunk_at n (suc k) xs zero d h = ap (λ (i : ℕ). take n (drop i xs)) {x = 0} {y = n * 0} (omega arith)
chunk_at n (suc k) xs (suc t) d h =
    chunk_at n k (drop n xs) t d (omega arith)
    ∙ ap (take n) (drop-drop (n * t) n xs)
    ∙ ap (λ (i : ℕ). take n (drop i xs)) {x = n + n * t} {y = n * suc t} (omega arith)

-- the word of the chunk at t
word_of_chunk : (M : List ℕ) (cs : List (List ℕ)) → length M ≡ 64 → cs ≡ first_chunks 4 (length M / 4) M
    → (t : ℕ) → t < 16 → from_be_bytes w32 (get_or cs t []) ≡ word M t
word_of_chunk M cs long is t h =
    let n : length M / 4 ≡ 16 = omega arith in
    let e : get_or cs t [] ≡ take 4 (drop (4 * t) M) =
    ap (λ (l : List (List ℕ)). get_or l t []) is ∙ ap (λ (k : ℕ). get_or (first_chunks 4 k M) t []) n ∙ chunk_at 4 16 M t [] h in
    let at : (j i : ℕ) → j < 4 → 4 * t + j ≡ i → get_or (get_or cs t []) j 0 ≡ get_or M i 0 =
    λ j i l q. ap (λ (b : List ℕ). get_or b j 0) e ∙ get_or-take 4 (drop (4 * t) M) j 0 l ∙ get_or-drop (4 * t) M j 0 ∙ ap (λ (k : ℕ). get_or M k 0) q in
    rw (at 0 (4 * t) (omega arith) (omega arith), at 1 (4 * t + 1) (omega arith) refl, at 2 (4 * t + 2) (omega arith) refl, at 3 (4 * t + 3) (omega arith) refl) refl

-- 16 numbers made of the chunks
pub words_are : (M ws : List ℕ) (cs : List (List ℕ)) → length M ≡ 64 → cs ≡ first_chunks 4 (length M / 4) M → length ws ≡ 16
    → ((t d : ℕ) → t < 16 → get_or ws t d ≡ from_be_bytes w32 (get_or cs t [])) → ws ≡ words M 16
words_are M ws cs all is long each =
    ext_get_or 0 ws (words M 16) (long ∙ sym (length-words M 16))
    (λ t h. let l : t < 16 = omega arith in each t 0 l ∙ word_of_chunk M cs all is t l ∙ sym (words_stay M t 16 (omega arith)))

-- the next word looks at four words
next_same :
    (V W : List ℕ) (t : ℕ) →
    get_or V (t - 2) 0 ≡ get_or W (t - 2) 0 → get_or V (t - 7) 0 ≡ get_or W (t - 7) 0 →
    get_or V (t - 15) 0 ≡ get_or W (t - 15) 0 → get_or V (t - 16) 0 ≡ get_or W (t - 16) 0 →
    next V t ≡ next W t
unfolding next
next_same V W t a b c d = rw (a, b, c, d)

-- ---- the schedule that begins with 16 words

module _ (ws : List ℕ) (long : length ws ≡ 16) where
  length-expand : (n : ℕ) → length (expand ws n) ≡ n + 16
  unfolding expand
  length-expand zero = long
  length-expand (suc n) =
      let e = length-expand n in
      length_push (expand ws n) (next (expand ws n) (n + 16)) ∙ omega arith

  stays : (n t : ℕ) → t < n + 16 → (m : ℕ) → n ≤ m → get_or (expand ws m) t 0 ≡ get_or (expand ws n) t 0
  unfolding expand
  stays n t lt =
      le_ind (λ (m : ℕ). get_or (expand ws m) t 0 ≡ get_or (expand ws n) t 0) refl
      (λ m h e. before (expand ws m) (m + 16) (next (expand ws m) (m + 16)) (length-expand m) t (omega arith) ∙ e)

  first : (t : ℕ) → t < 16 → get_or (schedule ws) t 0 ≡ get_or ws t 0
  unfolding expand
  first t h = stays 0 t (omega arith) 48 (omega arith)

  later : (t : ℕ) → t < 48 → get_or (schedule ws) (t + 16) 0 ≡ next (schedule ws) (t + 16)
  unfolding expand
  later t h =
      let keeps : (d : ℕ) → 0 < d → d ≤ 16 → get_or (expand ws t) (t + 16 - d) 0 ≡ get_or (schedule ws) (t + 16 - d) 0 =
      λ d p q. sym (stays t (t + 16 - d) (omega arith) 48 (omega arith)) in
      stays (suc t) (t + 16) (omega arith) 48 (omega arith)
      ∙ here (expand ws t) (t + 16) (next (expand ws t) (t + 16)) (length-expand t) (t + 16) refl
      ∙ next_same (expand ws t) (schedule ws) (t + 16)
      (keeps 2 (omega arith) (omega arith))
      (keeps 7 (omega arith) (omega arith))
      (keeps 15 (omega arith) (omega arith))
      (keeps 16 (omega arith) (omega arith))

pub first-words : FirstWords
first-words M t h = first (words M 16) (length-words M 16) t h ∙ words_stay M t 16 (omega arith)

pub later_words : LaterWords
unfolding next
later_words M t lo hi =
    let e : t - 16 + 16 ≡ t = omega arith in
    rw e at (later (words M 16) (length-words M 16) (t - 16) (omega arith))

-- ---- the rounds, over the schedule in 16 words

-- ws begins the schedule, w has its words from s to s + 15, and v is what t rounds make of H
pub record At (H ws w v : List ℕ) (s t : ℕ) : Type 0 where
  pub whole : length ws ≡ 16
  pub long : length w ≡ 16
  pub holds : (k : ℕ) → s ≤ k → k < s + 16 → get_or w (k % 16) 0 ≡ get_or (schedule ws) k 0
  pub variables : v ≡ rounds H (schedule ws) t

-- so it goes on from one to the other, wherever it began
abbrev pub Goes : (w v : List ℕ) (s t : ℕ) (w' v' : List ℕ) (s' t' : ℕ) → Type 0
Goes w v s t w' v' s' t' = (H ws : List ℕ) → At H ws w v s t → At H ws w' v' s' t'

pub at_first : (H ws : List ℕ) → length ws ≡ 16 → At H ws ws H 0 0
unfolding rounds
at_first H ws l =
    record {
      whole = l;
      long = l;
      holds = λ k _ h. let e : k % 16 ≡ k = omega arith in rw e (sym (first ws l k (omega arith)));
      variables = refl;
    }

pub at_same : {H ws w v : List ℕ} {s t s' t' : ℕ} → At H ws w v s t → s ≡ s' → t ≡ t' → At H ws w v s' t'
at_same {H} {ws} {w} {v} {s} {t} {s'} {t'} a p q = subst (λ (n : ℕ). At H ws w v n t') p (subst (λ (n : ℕ). At H ws w v s n) q a)

pub step_more : {H ws w v v' : List ℕ} {s t : ℕ} → At H ws w v s t → s ≤ t → t < s + 16
    → v' ≡ round v (get_or K t 0) (get_or w (t % 16) 0) → At H ws w v' s (t + 1)
unfolding rounds
step_more {H} {ws} {w} {v} {v'} {s} {t} a lo hi q =
    record {
      whole = a.whole;
      long = a.long;
      holds = a.holds;
      variables =
          q ∙ ap (λ (x : List ℕ). round x (get_or K t 0) (get_or w (t % 16) 0)) a.variables
          ∙ ap (round (rounds H (schedule ws) t) (get_or K t 0)) (a.holds t lo hi)
          ∙ ap (rounds H (schedule ws)) (sym (add-one t));
    }

-- the word ahead is the schedule's
ahead_is : {H ws w v : List ℕ} {t : ℕ} → At H ws w v t t → t < 48 → ahead w t ≡ get_or (schedule ws) (t + 16) 0
unfolding ahead next
ahead_is {H} {ws} {w} {v} {t} a h =
    let at : (d b : ℕ) → d < 16 → t + d ≡ t + 16 - b → get_or w ((t + d) % 16) 0 ≡ get_or (schedule ws) (t + 16 - b) 0 =
    λ d b q e. a.holds (t + d) (omega arith) (omega arith) ∙ ap (λ (k : ℕ). get_or (schedule ws) k 0) e in
    let p = at 14 2 (omega arith) (omega arith) in
    let q = at 9 7 (omega arith) (omega arith) in
    let r = at 1 15 (omega arith) (omega arith) in
    let s : get_or w (t % 16) 0 ≡ get_or (schedule ws) (t + 16 - 16) 0 =
    a.holds t (omega arith) (omega arith) ∙ ap (λ (k : ℕ). get_or (schedule ws) k 0) (omega arith) in
    let f = later ws a.whole t h in
    cc

pub turn_more : {H ws w v w' v' : List ℕ} {t : ℕ} → At H ws w v t t → t < 48
    → v' ≡ round v (get_or K t 0) (get_or w (t % 16) 0) → w' ≡ set w (t % 16) (ahead w t) → At H ws w' v' (t + 1) (t + 1)
turn_more {H} {ws} {w} {v} {w'} {v'} {t} a h p q =
    let i : t % 16 < length w = omega arith in
    record {
      whole = a.whole;
      long = ap length q ∙ length-set w (t % 16) (ahead w t) ∙ a.long;
      holds =
          λ k lo hi. elim (cases_lt k (t + 16)) [
            | inl l ↦
                let ne : k % 16 ≢ t % 16 = omega arith in
                ap (λ (x : List ℕ). get_or x (k % 16) 0) q ∙ get_or-set_other w (t % 16) (k % 16) (ahead w t) 0 ne ∙ a.holds k (omega arith) l
            | inr g ↦
                let e : k ≡ t + 16 = omega arith in
                let m : k % 16 ≡ t % 16 = omega arith in
                ap (λ (x : List ℕ). get_or x (k % 16) 0) q ∙ rw m (get_or-set_same w (t % 16) (ahead w t) 0 i) ∙ ahead_is a h
                ∙ ap (λ (n : ℕ). get_or (schedule ws) n 0) (sym e)
          ];
      variables = (step_more a (omega arith) (omega arith) p).variables;
    }
