-- What the calls over the tree answer, and what they write.
-- Assumes nothing.
use Rattle.std.specs.Prelude.{ℕ, cond, List, ◌++◌, length, drop, Ok, Err, Result, nat_le, nat_lt}
use Rattle.terms.specs.declared.refusal.Refusal.{Refusal}
use Rattle.terms.specs.declared.refusal.Refusal.TheVariants.{NoSuchBlock, BufferShort}
use Rattle.hash.specs.Hash.{Bytes}
use Rattle.tree.specs.Tree.{turns, path_length, path, digests, path_root}

-- the root that block b and the digests in s lead to, as block i of n
abbrev pub root_answer : (Bytes → Bytes) → ℕ → ℕ → Bytes → Bytes → Result Bytes Refusal
root_answer d i n b s = cond (nat_lt i n) (Ok (path_root d (turns i n) b (digests s))) (Err NoSuchBlock)

-- the length of the path of block i of n, where there is room for that many digests
abbrev pub path_answer : ℕ → ℕ → ℕ → Result ℕ Refusal
path_answer i n room = cond (nat_lt i n) (cond (nat_le (path_length i n) room) (Ok (path_length i n)) (Err BufferShort)) (Err NoSuchBlock)

-- the same of what is then in the room
abbrev pub path_written : (Bytes → Bytes) → ℕ → List Bytes → List Bytes → List Bytes
path_written d i bs out =
    cond (nat_lt i (length bs))
    (cond (nat_le (path_length i (length bs)) (length out)) (path d i bs ++ drop (path_length i (length bs)) out) out)
    out
