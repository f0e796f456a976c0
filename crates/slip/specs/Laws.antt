-- What is proved of the definitions, in the words of the promise.
-- Assumes nothing.
use Rattle.std.specs.Prelude.{◌≡◌, ℕ, ◌<◌, ◌≤◌, ◌⊎◌, List, [], ◌++◌, length, is_ok, Ok, slice_index_or}
use Rattle.std.specs.List.{flat_map}
use Rattle.terms.specs.Levels.{most_blocks}
use Rattle.hash.specs.Hash.{Bytes}
use Rattle.tree.specs.Laws.{Hash, Sized}
use Rattle.tree.specs.Tree.{turns, digests, root, root_strings, path, path_strings, Clash}
use Rattle.seal.specs.Forms.{count_of}
use Rattle.seal.specs.Seal.{seal_root, seal_bytes}
use Rattle.slip.specs.Slip.{Slipped, Shown, path_bytes, slip_length, slipped, read_answer, check_answer, accepted, slip_bytes}

-- the strings that are hashed to check a slip
abbrev pub slip_strings : Hash → Slipped → List Bytes
slip_strings d x = path_strings d (turns x.number x.count) x.block (digests x.path)

-- the check accepts exactly the well-formed slips whose path leads to the root of a well-formed seal of the same kind and count
abbrev pub AcceptsExactly : Type 0
AcceptsExactly = (d : Hash) (k : ℕ) (seal slip : Bytes) → is_ok (check_answer d k seal slip) ≡ accepted d k seal slip

-- where the seal's root is that of given blocks, an accepted slip shows the block that stands there, or two different strings among those hashed share a digest
abbrev pub AcceptedIsTrue : Type 0
AcceptedIsTrue =
    (d : Hash) → Sized d → (k : ℕ) (seal slip : Bytes) (x : Shown) → check_answer d k seal slip ≡ Ok x →
    (bs : List Bytes) → length bs ≡ count_of seal → root d bs ≡ seal_root seal →
    (x.block ≡ slice_index_or bs x.number []) ⊎ Clash d (slip_strings d (slipped slip) ++ root_strings d bs)

-- a slip whose parts are as its form wants them
pub record Sound (x : Slipped) : Type 0 where
  pub named : 0 < x.kind
  pub few : x.count ≤ most_blocks
  pub below : x.number < x.count
  pub block : length x.block ≡ 1024
  pub path : length x.path ≡ path_bytes x.number x.count

-- is read as it was written
abbrev pub WrittenIsRead : Type 0
WrittenIsRead = (x : Slipped) → Sound x → read_answer (slip_bytes x) ≡ Ok x

-- the seal of blocks, and the slip of one of them with its true path
abbrev pub seal_of : Hash → ℕ → List Bytes → Bytes
seal_of d k bs = seal_bytes (record { kind = k; count = length bs; root = root d bs })

abbrev pub slip_of : Hash → ℕ → ℕ → List Bytes → Bytes
slip_of d k i bs = slip_bytes (record { kind = k; count = length bs; number = i; block = slice_index_or bs i []; path = flat_map (λ p. p) (path d i bs) })

-- such a slip is accepted under such a seal, and shows that block
abbrev pub TrueIsAccepted : Type 0
TrueIsAccepted =
    (d : Hash) → Sized d → (k : ℕ) → 0 < k → (bs : List Bytes) → length bs ≤ most_blocks → (i : ℕ) → i < length bs → length (slice_index_or bs i []) ≡ 1024 →
    check_answer d k (seal_of d k bs) (slip_of d k i bs) ≡ Ok (record { number = i; count = length bs; block = slice_index_or bs i [] })

-- some lengths of slips, and the greatest
abbrev pub SlipLengths : Type 0
SlipLengths = (slip_length 0 1 ≡ 1048) × (slip_length 6 7 ≡ 1112) × ((i n : ℕ) → n ≤ most_blocks → slip_length i n ≤ 1432)
