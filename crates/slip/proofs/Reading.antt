-- The reading of a slip.
use Rattle.std.proofs.Common.{◌≡◌, ℕ, ◌+◌, ◌≤◌, true, false, eqb, ltb, [], length, take, drop, Ok, Err, Result, ap, ◌∙◌, subst, ap₂, arith, length-drop}
use Rattle.std.proofs.lemmas.List.{take_all}
use Rattle.std.proofs.lemmas.Bool.{eqb-true, and_parts}
use Rattle.fields.specs.Fields.{from, has_field, ended}
use Rattle.fields.specs.declared.bad_field.BadField.{BadField}
use Rattle.hash.specs.Hash.{Bytes}
use Rattle.tree.specs.Tree.{path_length}
use Rattle.tree.proofs.Steps.{length_bound}
use Rattle.seal.specs.declared.header.Header.{Header}
use Rattle.seal.specs.Forms.{first_bad, tested, count_of, head_answer}
use Rattle.slip.specs.Slip.{block_number_of, number_at, path_bytes, slip_length, slip_tests, slip_fault, slipped, fields_answer}
use Rattle.seal.proofs.Readings.{Head, bad_at, head_passes, head_stops, good, bad, field_ends, pass, stop, extra, none_extra, at_fault, no_fault}

-- a path has at most 12 digests
pub short_path : (i n : ℕ) → n ≤ 4096 → path_length i n ≤ 12
short_path i n h = length_bound 12 i n h

pub bad_head : (s : Bytes) (e : BadField) → ◌≡◌ {A = Result Header BadField} (Err e) (head_answer 1 (from s 0)) → Err e ≡ fields_answer s
bad_head s e h = let f = head_stops 1 s (drop 2 (slip_tests s)) e h in at_fault (slip_fault s) (slipped s) f.0 e f.1 f.2

module _ (s : Bytes) (h : Header) (front : Head 1 s h) where
  -- the count that was read is the one that the tests name
  count_is : h.count ≡ count_of s
  count_is = ap (λ (x : Header). x.count) front.says

  pub bad_number : (e : BadField) → Err e ≡ tested (number_at h.count (from s 11)) (bad_at 11) (block_number_of s) → Err e ≡ fields_answer s
  bad_number e f =
      let b = bad (number_at h.count (from s 11)) (bad_at 11) (block_number_of s) e f in
      at_fault (slip_fault s) (slipped s) 11 e
      (head_passes 1 s h front (drop 2 (slip_tests s)) ∙ stop 11 (number_at (count_of s) (from s 11)) (drop 3 (slip_tests s)) (subst (λ (m : ℕ). number_at m (from s 11) ≡ false) count_is b.0)) b.1

  module _ (i : ℕ) (number : Ok i ≡ tested (number_at h.count (from s 11)) (bad_at 11) (block_number_of s)) where
    number_there : (number_at h.count (from s 11) ≡ true) × (i ≡ block_number_of s)
    number_there = good (number_at h.count (from s 11)) (bad_at 11) (block_number_of s) i number

    pub field_there : has_field (from s 11) 4 4 ≡ true
    field_there = (and_parts (has_field (from s 11) 4 4) (ltb (block_number_of s) h.count) number_there.0).0

    numbered : slip_fault s ≡ first_bad (drop 3 (slip_tests s))
    numbered =
        head_passes 1 s h front (drop 2 (slip_tests s))
        ∙ pass 11 (number_at (count_of s) (from s 11)) (drop 3 (slip_tests s)) (subst (λ (m : ℕ). number_at m (from s 11) ≡ true) count_is number_there.0)

    pub bad_block : (e : BadField) → Err e ≡ tested (has_field (from s 18) 5 1024) (bad_at 18) (take 1024 (drop 21 s)) → Err e ≡ fields_answer s
    bad_block e f =
        let b = bad (has_field (from s 18) 5 1024) (bad_at 18) (take 1024 (drop 21 s)) e f in
        at_fault (slip_fault s) (slipped s) 18 e (numbered ∙ stop 18 _ (drop 4 (slip_tests s)) b.0) b.1

    module _ (b : Bytes) (block : Ok b ≡ tested (has_field (from s 18) 5 1024) (bad_at 18) (take 1024 (drop 21 s))) (m : ℕ) (long : m ≡ path_bytes i h.count) where
      long_is : m ≡ path_bytes (block_number_of s) (count_of s)
      long_is = long ∙ ap₂ path_bytes number_there.1 count_is

      blocked : slip_fault s ≡ first_bad (drop 4 (slip_tests s))
      blocked = numbered ∙ pass 18 (has_field (from s 18) 5 1024) (drop 4 (slip_tests s)) (good _ _ _ _ block).0

      pub bad_path : (e : BadField) → Err e ≡ tested (has_field (from s 1045) 6 m) (bad_at 1045) (take m (drop 1048 s)) → Err e ≡ fields_answer s
      bad_path e g =
          let f = bad (has_field (from s 1045) 6 m) (bad_at 1045) (take m (drop 1048 s)) e g in
          at_fault (slip_fault s) (slipped s) 1045 e
          (blocked ∙ stop 1045 _ (drop 5 (slip_tests s)) (subst (λ (x : ℕ). has_field (from s 1045) 6 x ≡ false) long_is f.0)) f.1

      module _ (p : Bytes) (path : Ok p ≡ tested (has_field (from s 1045) 6 m) (bad_at 1045) (take m (drop 1048 s))) where
        there : has_field (from s 1045) 6 m ≡ true
        there = (good (has_field (from s 1045) 6 m) (bad_at 1045) (take m (drop 1048 s)) p path).0

        whole : slip_fault s ≡ first_bad (drop 5 (slip_tests s))
        whole = blocked ∙ pass 1045 _ (drop 5 (slip_tests s)) (subst (λ (x : ℕ). has_field (from s 1045) 6 x ≡ true) long_is there)

        -- the end of the path's field is the slip's length
        end_is : 1045 + (m + 3) ≡ slip_length (block_number_of s) (count_of s)
        end_is = omega (arith, long_is)

        pub bad_end : (e : BadField) → Err e ≡ ended (from s (1045 + (m + 3))) → Err e ≡ fields_answer s
        bad_end e f =
            let x = extra s (1045 + (m + 3)) e f in
            at_fault (slip_fault s) (slipped s) (slip_length (block_number_of s) (count_of s)) e
            (whole ∙ stop _ _ [] (subst (λ (z : ℕ). eqb (length s) z ≡ false) end_is x.0)) (x.1 ∙ ap bad_at end_is)

        pub all_good : (u : Unit {0}) → Ok u ≡ ended (from s (1045 + (m + 3))) → Ok (record { kind = h.kind; count = h.count; number = i; block = b; path = p }) ≡ fields_answer s
        all_good u f =
            let at_end = none_extra s (1045 + (m + 3)) u (field_ends (from s 1045) 6 m there) f in
            let size = eqb-true (length s) (1045 + (m + 3)) at_end in
            let b-is = (good (has_field (from s 18) 5 1024) (bad_at 18) (take 1024 (drop 21 s)) b block).1 in
            let p-is = (good (has_field (from s 1045) 6 m) (bad_at 1045) (take m (drop 1048 s)) p path).1 in
            let all = take_all m (drop 1048 s) (simp length-drop (omega arith)) in
            let i-is = number_there.1 in
            let says = front.says in
            no_fault (slip_fault s) (slipped s) _ (whole ∙ pass _ _ [] (subst (λ (z : ℕ). eqb (length s) z ≡ true) end_is at_end)) (rw (says, i-is, b-is) (cc))
