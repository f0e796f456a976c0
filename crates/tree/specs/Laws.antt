-- The laws of the tree, over every hash; those about clashes over every hash whose digests have 32 bytes.
-- Assumes nothing.
use Rattle.std.specs.Prelude.{◌≡◌, ℕ, suc, ◌-◌, ◌^◌, ◌<◌, ◌≤◌, ◌⊎◌, List, [], ◌∷◌, ◌++◌, length, take, drop, slice_index_or}
use Rattle.hash.specs.Hash.{Bytes}
use Rattle.tree.specs.Tree.{leaf, node, Splits, turns, path_length, root, root_strings, path, path_root, path_strings, Clash}

-- a function from strings to digests
abbrev pub Hash : Type 0
Hash = Bytes → Bytes

-- its digests have 32 bytes
abbrev pub Sized : Hash → Type 0
Sized d = (m : Bytes) → length (d m) ≡ 32

-- section 2.1: what r, the root, has to meet
pub record RfcRoot (d : Hash) (r : List Bytes → Bytes) : Type 0 where
  pub none : r [] ≡ d []
  pub one : (b : Bytes) → r (b ∷ []) ≡ d (leaf b)
  pub more : (L : ℕ) (bs : List Bytes) → Splits L (length bs) → r bs ≡ d (node (r (take (2 ^ L) bs)) (r (drop (2 ^ L) bs)))

-- section 2.1.1: what p, the path, has to meet
pub record RfcPath (d : Hash) (p : ℕ → List Bytes → List Bytes) : Type 0 where
  pub one : (b : Bytes) → p 0 (b ∷ []) ≡ []
  pub on_left :
      (L i : ℕ) (bs : List Bytes) → Splits L (length bs) → i < 2 ^ L →
      p i bs ≡ p i (take (2 ^ L) bs) ++ root d (drop (2 ^ L) bs) ∷ []
  pub on_right :
      (L i : ℕ) (bs : List Bytes) → Splits L (length bs) → 2 ^ L ≤ i → i < length bs →
      p i bs ≡ p (i - 2 ^ L) (drop (2 ^ L) bs) ++ root d (take (2 ^ L) bs) ∷ []

-- the same of its length l
pub record RfcLength (l : ℕ → ℕ → ℕ) : Type 0 where
  pub one : (i : ℕ) → l i 1 ≡ 0
  pub on_left : (L i n : ℕ) → Splits L n → i < 2 ^ L → l i n ≡ suc (l i (2 ^ L))
  pub on_right : (L i n : ℕ) → Splits L n → 2 ^ L ≤ i → l i n ≡ suc (l (i - 2 ^ L) (n - 2 ^ L))

-- the definitions meet the equations, and nothing else does
abbrev pub RootIsRfc : Type 0
RootIsRfc = (d : Hash) → RfcRoot d (root d)

abbrev pub RootAlone : Type 0
RootAlone = (d : Hash) (r : List Bytes → Bytes) → RfcRoot d r → (bs : List Bytes) → r bs ≡ root d bs

abbrev pub PathIsRfc : Type 0
PathIsRfc = (d : Hash) → RfcPath d (path d)

abbrev pub PathAlone : Type 0
PathAlone =
    (d : Hash) (p : ℕ → List Bytes → List Bytes) → RfcPath d p → (i : ℕ) (bs : List Bytes) → i < length bs → p i bs ≡ path d i bs

abbrev pub LengthIsRfc : Type 0
LengthIsRfc = RfcLength path_length

abbrev pub LengthAlone : Type 0
LengthAlone = (l : ℕ → ℕ → ℕ) → RfcLength l → (i n : ℕ) → 1 ≤ n → l i n ≡ path_length i n

-- a path has that length
abbrev pub PathLength : Type 0
PathLength = (d : Hash) (i : ℕ) (bs : List Bytes) → i < length bs → length (path d i bs) ≡ path_length i (length bs)

-- a true path leads from its block to the root
abbrev pub Complete : Type 0
Complete =
    (d : Hash) (i : ℕ) (bs : List Bytes) → i < length bs →
    path_root d (turns i (length bs)) (slice_index_or bs i []) (path d i bs) ≡ root d bs

-- what leads to the root of given blocks is the true block and the true path, or two different strings among those hashed share a digest
abbrev pub Sound : Type 0
Sound =
    (d : Hash) → Sized d → (i : ℕ) (bs : List Bytes) → i < length bs →
    (b : Bytes) (ps : List Bytes) → length ps ≡ path_length i (length bs) →
    path_root d (turns i (length bs)) b ps ≡ root d bs →
    ((b ≡ slice_index_or bs i []) × (ps ≡ path d i bs)) ⊎ Clash d (path_strings d (turns i (length bs)) b ps ++ root_strings d bs)

-- two pairs of block and path that lead to one root from one number and count are the same pair, or two different strings hashed for them share a digest
abbrev pub TwoPaths : Type 0
TwoPaths =
    (d : Hash) → Sized d → (i n : ℕ) (b c : Bytes) (ps qs : List Bytes) →
    length ps ≡ path_length i n → length qs ≡ path_length i n →
    path_root d (turns i n) b ps ≡ path_root d (turns i n) c qs →
    ((b ≡ c) × (ps ≡ qs)) ⊎ Clash d (path_strings d (turns i n) b ps ++ path_strings d (turns i n) c qs)

-- some lengths of paths
abbrev pub LengthCases : Type 0
LengthCases =
    (path_length 0 1 ≡ 0) × (path_length 4 5 ≡ 1) × (path_length 6 7 ≡ 2) × (path_length 3 7 ≡ 3) × (path_length 0 4096 ≡ 12)
