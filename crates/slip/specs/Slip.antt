-- A slip: the kind of the hash, the count of blocks, a block's number, the block, and its path.
-- Assumes nothing.
use Rattle.std.specs.Prelude.{ℕ, ◌+◌, ◌*◌, Bool, cond, not, ◌&&◌, List, [], ◌∷◌, ◌++◌, length, take, drop, is_some, is_ok, Some, None, Err, Option, Result, ◌==◌, nat_le, nat_lt}
use Rattle.std.specs.Result.{result_map_both}
use Rattle.std.specs.Str.{bytes_eq}
use Rattle.fields.specs.Fields.{Reading, from, big4, has_field, number, field, bytes4}
use Rattle.fields.specs.declared.bad_field.BadField.{BadField}
use Rattle.terms.specs.declared.refusal.Refusal.{Refusal}
use Rattle.terms.specs.declared.refusal.Refusal.TheVariants.{BlockLength, NoSuchBlock, BufferShort, SealForm, SlipForm, OtherSeal, SlipRoot}
use Rattle.hash.specs.Hash.{Bytes}
use Rattle.tree.specs.Tree.{turns, path_length, digests, path_root}
use Rattle.seal.specs.Forms.{first_bad, unless_fault, tested, kind_of, kind_field, count_of, count_field}
use Rattle.seal.specs.Seal.{Sealed, sealed, is_under, seal_under}

-- what a slip says
pub record Slipped : Type 0 where
  pub kind : ℕ
  pub count : ℕ
  pub number : ℕ
  pub block : Bytes
  pub path : Bytes

-- tag 4, four bytes: the block's number, which is below the count n
abbrev pub block_number_of : Bytes → ℕ
block_number_of s = big4 s 14

abbrev pub number_at : ℕ → Reading → Bool
number_at n r = has_field r 4 4 && nat_lt (number r) n

-- the bytes of the path of block i of n, tag 6
abbrev pub path_bytes : ℕ → ℕ → ℕ
path_bytes i n = 32 * path_length i n

-- a slip's length
abbrev pub slip_length : ℕ → ℕ → ℕ
slip_length i n = 1048 + path_bytes i n

-- what the bytes of a slip say; tag 5, 1,024 bytes, is the block
abbrev pub slipped : Bytes → Slipped
slipped s = record { kind = kind_of s; count = count_of s; number = block_number_of s; block = take 1024 (drop 21 s); path = drop 1048 s }

-- the fields in their order, and that nothing follows
abbrev pub slip_tests : Bytes → List (ℕ × Bool)
slip_tests s =
    (0, kind_field s)
    ∷ (4, count_field 1 s)
    ∷ (11, number_at (count_of s) (from s 11))
    ∷ (18, has_field (from s 18) 5 1024)
    ∷ (1045, has_field (from s 1045) 6 (path_bytes (block_number_of s) (count_of s)))
    ∷ (slip_length (block_number_of s) (count_of s), length s == slip_length (block_number_of s) (count_of s))
    ∷ []

-- the offset of the first bad field's tag, or of the first extra byte
abbrev pub slip_fault : Bytes → Option ℕ
slip_fault s = first_bad (slip_tests s)

-- a slip's form
abbrev pub slip_form : Bytes → Bool
slip_form s = not (is_some (slip_fault s))

-- the fields of a slip; else the offset of what is wrong
abbrev pub fields_answer : Bytes → Result Slipped BadField
fields_answer s = unless_fault (slip_fault s) (slipped s)

-- the reading of a slip
abbrev pub read_answer : Bytes → Result Slipped Refusal
read_answer s = result_map_both (λ x. x) (λ e. SlipForm e.at) (fields_answer s)

-- what a checked slip shows
pub record Shown : Type 0 where
  pub number : ℕ
  pub count : ℕ
  pub block : Bytes

abbrev pub shown : Slipped → Shown
shown x = record { number = x.number; count = x.count; block = x.block }

-- the slip is of the seal's kind and count
abbrev pub of_seal : Slipped → Sealed → Bool
of_seal x y = x.kind == y.kind && x.count == y.count

-- its path leads to the seal's root
abbrev pub leads : (Bytes → Bytes) → Slipped → Sealed → Bool
leads d x y = bytes_eq (path_root d (turns x.number x.count) x.block (digests x.path)) y.root

-- a slip held against a seal
abbrev pub held_answer : (Bytes → Bytes) → Slipped → Sealed → Result Shown Refusal
held_answer d x y = cond (of_seal x y) (tested (leads d x y) SlipRoot (shown x)) (Err OtherSeal)

-- the same, where the seal fits a hash d of kind k
abbrev pub under_answer : (Bytes → Bytes) → ℕ → Slipped → Sealed → Result Shown Refusal
under_answer d k x y = cond (is_under d k y) (held_answer d x y) (Err SealForm)

-- an answer, where there is no fault in the slip; else its offset
abbrev pub unless_read : Option ℕ → Result Shown Refusal → Result Shown Refusal
unless_read None a = a
unless_read (Some at) a = Err (SlipForm at)

-- the check of a slip under a seal, by a hash d of kind k
abbrev pub check_answer : (Bytes → Bytes) → ℕ → Bytes → Bytes → Result Shown Refusal
check_answer d k seal slip =
    cond (seal_under d k seal) (unless_read (slip_fault slip) (held_answer d (slipped slip) (sealed seal))) (Err SealForm)

-- what it accepts: a well-formed slip whose path leads to the root of a well-formed seal of the same kind and count
abbrev pub accepted : (Bytes → Bytes) → ℕ → Bytes → Bytes → Bool
accepted d k seal slip =
    seal_under d k seal && slip_form slip && of_seal (slipped slip) (sealed seal) && leads d (slipped slip) (sealed seal)

-- the slip of block i under a seal
abbrev pub slip_under : Sealed → ℕ → Bytes → Bytes → Slipped
slip_under x i b p = record { kind = x.kind; count = x.count; number = i; block = b; path = p }

-- a slip's bytes
abbrev pub slip_bytes : Slipped → Bytes
slip_bytes x =
    field 1 (x.kind ∷ []) 1 ++ field 2 (bytes4 x.count) 4 ++ field 4 (bytes4 x.number) 4 ++ field 5 x.block 1024
    ++ field 6 x.path (length x.path)

-- those in front of its block
abbrev pub slip_head : ℕ → ℕ → ℕ → Bytes
slip_head k n i = field 1 (k ∷ []) 1 ++ field 2 (bytes4 n) 4 ++ field 4 (bytes4 i) 4 ++ field 5 [] 1024

-- the writing of a slip over out: the answer, and what is then there
abbrev pub slip_write_answer : Slipped → Bytes → Result ℕ Refusal
slip_write_answer x out =
    cond (length x.block == 1024)
    (cond (nat_lt x.number x.count)
    (cond (length x.path == path_bytes x.number x.count)
    (tested (nat_le (slip_length x.number x.count) (length out)) BufferShort (slip_length x.number x.count))
    (Err (SlipForm 1045)))
    (Err NoSuchBlock))
    (Err BlockLength)

abbrev pub slip_written : Slipped → Bytes → Bytes
slip_written x out = cond (is_ok (slip_write_answer x out)) (slip_bytes x ++ drop (slip_length x.number x.count) out) out
