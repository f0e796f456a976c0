-- A seal: the kind of the hash, the count of blocks, and their root, in 46 bytes.
-- Assumes nothing.
use Rattle.std.specs.Prelude.{ℕ, Bool, true, cond, not, ◌&&◌, List, [], ◌∷◌, ◌++◌, length, take, drop, is_some, Option, Result, ◌==◌, nat_le}
use Rattle.std.specs.Str.{bytes_eq}
use Rattle.fields.specs.Fields.{from, has_field, field, bytes4}
use Rattle.fields.specs.declared.bad_field.BadField.{BadField}
use Rattle.terms.specs.Levels.{most_blocks}
use Rattle.terms.specs.declared.refusal.Refusal.{Refusal}
use Rattle.terms.specs.declared.refusal.Refusal.TheVariants.{BufferShort, SealForm}
use Rattle.hash.specs.Hash.{Bytes}
use Rattle.seal.specs.Forms.{first_bad, unless_fault, tested, kind_of, kind_field, count_of, count_field}

-- what a seal says: kind, count and root
pub record Sealed : Type 0 where
  pub kind : ℕ
  pub count : ℕ
  pub root : Bytes

-- tag 3, 32 bytes: the root
abbrev pub seal_root : Bytes → Bytes
seal_root s = take 32 (drop 14 s)

-- the fields in their order, and that nothing follows
abbrev pub seal_tests : Bytes → List (ℕ × Bool)
seal_tests s = (0, kind_field s) ∷ (4, count_field 0 s) ∷ (11, has_field (from s 11) 3 32) ∷ (46, length s == 46) ∷ []

abbrev pub seal_fault : Bytes → Option ℕ
seal_fault s = first_bad (seal_tests s)

-- a seal's form
abbrev pub seal_form : Bytes → Bool
seal_form s = not (is_some (seal_fault s))

-- what the bytes of a seal say
abbrev pub sealed : Bytes → Sealed
sealed s = record { kind = kind_of s; count = count_of s; root = seal_root s }

-- the root of no blocks is the digest of the empty string
abbrev pub empty_root : (Bytes → Bytes) → ℕ → Bytes → Bool
empty_root d n r = cond (n == 0) (bytes_eq r (d [])) true

-- what a seal says fits a hash d of kind k
abbrev pub is_under : (Bytes → Bytes) → ℕ → Sealed → Bool
is_under d k x = x.kind == k && empty_root d x.count x.root

-- a seal under a hash d of kind k
abbrev pub seal_under : (Bytes → Bytes) → ℕ → Bytes → Bool
seal_under d k s = seal_form s && is_under d k (sealed s)

-- the reading of a seal by its form alone, and under a hash
abbrev pub form_answer : Bytes → Result Sealed Refusal
form_answer s = tested (seal_form s) SealForm (sealed s)

abbrev pub seal_answer : (Bytes → Bytes) → ℕ → Bytes → Result Sealed Refusal
seal_answer d k s = tested (seal_under d k s) SealForm (sealed s)

-- a seal that is made
abbrev pub made_answer : (Bytes → Bytes) → ℕ → ℕ → Bytes → Result Sealed Refusal
made_answer d k n r = tested (nat_le n most_blocks && empty_root d n r) SealForm (record { kind = k; count = n; root = r })

-- a seal's bytes
abbrev pub seal_bytes : Sealed → Bytes
seal_bytes x = field 1 (x.kind ∷ []) 1 ++ field 2 (bytes4 x.count) 4 ++ field 3 x.root 32

-- the writing of a seal over out: the answer, and what is then there
abbrev pub seal_write_answer : Bytes → Result ℕ Refusal
seal_write_answer out = tested (nat_le 46 (length out)) BufferShort 46

abbrev pub seal_written : Sealed → Bytes → Bytes
seal_written x out = cond (nat_le 46 (length out)) (seal_bytes x ++ drop 46 out) out

-- the fields of a seal; else the offset of what is wrong
abbrev pub fields_answer : Bytes → Result Sealed BadField
fields_answer s = unless_fault (seal_fault s) (sealed s)
