-- What is written is read.
use Rattle.std.proofs.Common.{◌≡◌, ℕ, ◌+◌, ◌*◌, ◌/◌, ◌%◌, ◌^◌, ◌<◌, ◌≤◌, true, ◌&&◌, eqb, ltb, leb, [], ◌∷◌, ◌++◌, length, get_or, take, drop, None, Ok, Option, sym, refl, ap, ◌∙◌, ap₂, suc-add, zero-add, arith, lit≤, length-append}
use Rattle.std.proofs.lemmas.List.{take_at, get_or_at, get_or-append_right}
use Rattle.std.proofs.lemmas.Bool.{eq-eqb, le-leb, lt-ltb, and_from}
use Rattle.std.specs.Result.{result_map_both}
use Rattle.terms.specs.declared.refusal.Refusal.TheVariants.{SlipForm}
use Rattle.fields.specs.Fields.{big2, bytes2, from, has_field}
use Rattle.hash.specs.Hash.{Bytes}
use Rattle.seal.specs.Forms.{unless_fault, kind_field, count_of, count_field}
use Rattle.seal.proofs.Readings.{field_there, pass}
use Rattle.seal.proofs.Written.{number_back}
use Rattle.slip.specs.Laws.{Sound, WrittenIsRead}
use Rattle.slip.specs.Slip.{Slipped, block_number_of, path_bytes, slip_length, slip_tests, slip_fault, slipped, slip_bytes}
use Rattle.slip.proofs.Reading.{short_path}

-- what stands after a front
drop_past : (p q : Bytes) (j : ℕ) → drop (length p + j) (p ++ q) ≡ drop j q
drop_past [] q j = rw zero-add
drop_past (x ∷ p) q j = rw suc-add (drop_past p q j)

module _ (x : Slipped) (f : Sound x) where
  -- the path's field, after the block
  abbrev tail : Bytes
  tail = 6 ∷ (bytes2 (length x.path) ++ x.path)

  long : length (slip_bytes x) ≡ slip_length x.number x.count
  long = omega (arith, length-append x.block tail, f.block, f.path)

  count_is : count_of (slip_bytes x) ≡ x.count
  count_is = number_back x.count f.few

  number_is : block_number_of (slip_bytes x) ≡ x.number
  number_is = number_back x.number (omega (arith, f.few, f.below))

  block_is : take 1024 (drop 21 (slip_bytes x)) ≡ x.block
  block_is = take_at x.block tail 1024 f.block

  path_is : drop 1048 (slip_bytes x) ≡ x.path
  path_is =
      let past : 1027 ≡ length x.block + 3 = omega (arith, f.block) in
      ap (λ (n : ℕ). drop n (x.block ++ tail)) past ∙ drop_past x.block tail 3

  tag_is : get_or (slip_bytes x) 1045 0 ≡ 6
  tag_is = get_or_at x.block 6 (bytes2 (length x.path) ++ x.path) 0 1024 f.block

  size_is : big2 (slip_bytes x) 1046 ≡ path_bytes (block_number_of (slip_bytes x)) (count_of (slip_bytes x))
  size_is =
      let high = get_or-append_right x.block tail 1024 1025 0 f.block (lit≤ tt) in
      let low = get_or-append_right x.block tail 1024 1026 0 f.block (lit≤ tt) in
      let few : length x.path ≤ 384 = omega (arith, f.path, short_path x.number x.count f.few) in
      let back : length x.path / 2 ^ 8 % 256 * 2 ^ 8 + length x.path % 256 ≡ length x.path = omega arith in
      ap₂ (λ (h l : ℕ). h * 2 ^ 8 + l) high low ∙ back ∙ f.path ∙ sym (ap₂ path_bytes number_is count_is)

  -- each test passes
  abbrev n : ℕ
  n = length (slip_bytes x)

  long_path : path_bytes (block_number_of (slip_bytes x)) (count_of (slip_bytes x)) ≡ path_bytes x.number x.count
  long_path = ap₂ path_bytes number_is count_is

  kind : kind_field (slip_bytes x) ≡ true
  kind = and_from (has_field (from (slip_bytes x) 0) 1 1) (ltb 0 x.kind) (field_there (from (slip_bytes x) 0) 1 1 (omega (arith, long)) refl refl) (lt-ltb 0 x.kind f.named)

  count : count_field 1 (slip_bytes x) ≡ true
  count =
      let there = field_there (from (slip_bytes x) 4) 2 4 (omega (arith, long)) refl refl in
      let some : 1 ≤ count_of (slip_bytes x) = omega (arith, count_is, f.below) in
      let few : count_of (slip_bytes x) ≤ 4096 = omega (arith, count_is, f.few) in
      and_from (has_field (from (slip_bytes x) 4) 2 4 && leb 1 (count_of (slip_bytes x))) (leb (count_of (slip_bytes x)) 4096) (and_from (has_field (from (slip_bytes x) 4) 2 4) (leb 1 (count_of (slip_bytes x))) there (le-leb 1 (count_of (slip_bytes x)) some)) (le-leb (count_of (slip_bytes x)) 4096 few)

  number : (has_field (from (slip_bytes x) 11) 4 4 && ltb (block_number_of (slip_bytes x)) (count_of (slip_bytes x))) ≡ true
  number =
      let below : block_number_of (slip_bytes x) < count_of (slip_bytes x) = omega (arith, number_is, count_is, f.below) in
      and_from (has_field (from (slip_bytes x) 11) 4 4) (ltb (block_number_of (slip_bytes x)) (count_of (slip_bytes x))) (field_there (from (slip_bytes x) 11) 4 4 (omega (arith, long)) refl refl) (lt-ltb (block_number_of (slip_bytes x)) (count_of (slip_bytes x)) below)

  block : has_field (from (slip_bytes x) 18) 5 1024 ≡ true
  block = field_there (from (slip_bytes x) 18) 5 1024 (omega (arith, long)) refl refl

  path : has_field (from (slip_bytes x) 1045) 6 (path_bytes (block_number_of (slip_bytes x)) (count_of (slip_bytes x))) ≡ true
  path = field_there (from (slip_bytes x) 1045) 6 (path_bytes (block_number_of (slip_bytes x)) (count_of (slip_bytes x))) (omega (arith, long, long_path)) tag_is size_is

  end : eqb n (slip_length (block_number_of (slip_bytes x)) (count_of (slip_bytes x))) ≡ true
  end = eq-eqb n (slip_length (block_number_of (slip_bytes x)) (count_of (slip_bytes x))) (omega (arith, long, long_path))

  pub no_fault : slip_fault (slip_bytes x) ≡ None
  no_fault =
      pass 0 (kind_field (slip_bytes x)) (drop 1 (slip_tests (slip_bytes x))) kind
      ∙ pass 4 (count_field 1 (slip_bytes x)) (drop 2 (slip_tests (slip_bytes x))) count
      ∙ pass 11 _ (drop 3 (slip_tests (slip_bytes x))) number
      ∙ pass 18 _ (drop 4 (slip_tests (slip_bytes x))) block
      ∙ pass 1045 _ (drop 5 (slip_tests (slip_bytes x))) path
      ∙ pass _ _ [] end

  pub same_parts : slipped (slip_bytes x) ≡ x
  same_parts =
      ap₂ (λ (c i : ℕ). record { kind = x.kind; count = c; number = i; block = take 1024 (drop 21 (slip_bytes x)); path = drop 1048 (slip_bytes x) }) count_is number_is
      ∙ ap₂ (λ (b p : Bytes). record { kind = x.kind; count = x.count; number = x.number; block = b; path = p }) block_is path_is

pub written_is_read : WrittenIsRead
written_is_read x f =
    ap (λ (o : Option ℕ). result_map_both (λ y. y) (λ e. SlipForm e.at) (unless_fault o (slipped (slip_bytes x)))) (no_fault x f)
    ∙ ap (λ (y : Slipped). Ok y) (same_parts x f)
