-- The Merkle tree of RFC 6962, section 2.1, over any hash d from strings of bytes to digests, which are strings of bytes too.
-- What says 'at level L' is meant of at most 2 ^ L blocks, and does not depend on L.
-- Assumes nothing.
use Rattle.std.specs.Prelude.{◌≡◌, ℕ, zero, suc, ◌-◌, ◌/◌, ◌^◌, ◌<◌, ◌≤◌, true, false, ◌≢◌, List, [], ◌∷◌, ◌++◌, length, take, drop, nat_le, nat_lt}
use mathlib.Core.List.{Memᴰ}
use Rattle.std.specs.Simd.{first_chunks}
use Rattle.hash.specs.Hash.{Bytes}

-- what is hashed for a block
abbrev pub leaf : Bytes → Bytes
leaf b = 0 ∷ b

-- what is hashed for the digests of a left and a right part
abbrev pub node : Bytes → Bytes → Bytes
node l r = 1 ∷ (l ++ r)

-- 2 ^ L is the largest power of two below n
pub record Splits (L n : ℕ) : Type 0 where
  pub more : 2 ^ L < n
  pub most : n ≤ 2 ^ suc L

-- k is the largest power of two below n
pub record Split (k n : ℕ) : Type 0 where
  pub level : ℕ
  pub power : k ≡ 2 ^ level
  pub splits : Splits level n

-- which part of the node above it a part is
pub data Turn : Type 0 where
  left right : Turn

-- what is hashed for the node above a part with digest x, whose other part has digest p
abbrev pub join : Turn → Bytes → Bytes → Bytes
join left x p = node x p
join right x p = node p x

-- the turns from block i of n up to the root, the lowest first
unfoldable pub turns_at : ℕ → ℕ → ℕ → List Turn
turns_at zero i n = []
turns_at (suc L) i n =
    elim (nat_le n (2 ^ L)) [
      | true ↦ turns_at L i n
      | false ↦
          elim (nat_lt i (2 ^ L)) [
            | true ↦ turns_at L i (2 ^ L) ++ left ∷ []
            | false ↦ turns_at L (i - 2 ^ L) (n - 2 ^ L) ++ right ∷ []
          ]
    ]

-- how many they are
unfoldable pub path_length_at : ℕ → ℕ → ℕ → ℕ
path_length_at zero i n = 0
path_length_at (suc L) i n =
    elim (nat_le n (2 ^ L)) [
      | true ↦ path_length_at L i n
      | false ↦
          elim (nat_lt i (2 ^ L)) [
            | true ↦ suc (path_length_at L i (2 ^ L))
            | false ↦ suc (path_length_at L (i - 2 ^ L) (n - 2 ^ L))
          ]
    ]

-- the turns of block i of n, and the length of its path: n blocks are at most 2 ^ n
abbrev pub turns : ℕ → ℕ → List Turn
turns i n = turns_at n i n

abbrev pub path_length : ℕ → ℕ → ℕ
path_length i n = path_length_at n i n

-- the digests that stand in a string one after another
abbrev pub digests : Bytes → List Bytes
digests s = first_chunks 32 (length s / 32) s

module _ (d : Bytes → Bytes) where
  -- the root at level L: k = 2 ^ L is the largest power of two below the number of blocks where there are more than k
  unfoldable pub root_at : ℕ → List Bytes → Bytes
  root_at zero [] = d []
  root_at zero (b ∷ bs) = d (leaf b)
  root_at (suc L) bs =
      elim (nat_le (length bs) (2 ^ L)) [
        | true ↦ root_at L bs
        | false ↦ d (node (root_at L (take (2 ^ L) bs)) (root_at L (drop (2 ^ L) bs)))
      ]

  -- the root of a list of blocks: n blocks are at most 2 ^ n
  abbrev pub root : List Bytes → Bytes
  root bs = root_at (length bs) bs

  -- every string that is hashed for the root
  unfoldable pub root_strings_at : ℕ → List Bytes → List Bytes
  root_strings_at zero [] = [] ∷ []
  root_strings_at zero (b ∷ bs) = leaf b ∷ []
  root_strings_at (suc L) bs =
      elim (nat_le (length bs) (2 ^ L)) [
        | true ↦ root_strings_at L bs
        | false ↦
            node (root_at L (take (2 ^ L) bs)) (root_at L (drop (2 ^ L) bs))
            ∷ (root_strings_at L (take (2 ^ L) bs) ++ root_strings_at L (drop (2 ^ L) bs))
      ]

  abbrev pub root_strings : List Bytes → List Bytes
  root_strings bs = root_strings_at (length bs) bs

  -- the audit path of block i, the lowest sibling first
  unfoldable pub path_at : ℕ → ℕ → List Bytes → List Bytes
  path_at zero i bs = []
  path_at (suc L) i bs =
      elim (nat_le (length bs) (2 ^ L)) [
        | true ↦ path_at L i bs
        | false ↦
            elim (nat_lt i (2 ^ L)) [
              | true ↦ path_at L i (take (2 ^ L) bs) ++ root_at L (drop (2 ^ L) bs) ∷ []
              | false ↦ path_at L (i - 2 ^ L) (drop (2 ^ L) bs) ++ root_at L (take (2 ^ L) bs) ∷ []
            ]
      ]

  abbrev pub path : ℕ → List Bytes → List Bytes
  path i bs = path_at (length bs) i bs

  -- the digest that siblings lead to from the digest x, and the strings that are hashed on the way
  unfoldable pub root_from : Bytes → List Turn → List Bytes → Bytes
  root_from x [] ps = x
  root_from x (t ∷ ts) [] = x
  root_from x (t ∷ ts) (p ∷ ps) = root_from (d (join t x p)) ts ps

  unfoldable pub strings_from : Bytes → List Turn → List Bytes → List Bytes
  strings_from x [] ps = []
  strings_from x (t ∷ ts) [] = []
  strings_from x (t ∷ ts) (p ∷ ps) = join t x p ∷ strings_from (d (join t x p)) ts ps

  -- the root that a block and a path lead to, by the turns ts, and the strings that are hashed for it
  abbrev pub path_root : List Turn → Bytes → List Bytes → Bytes
  path_root ts b ps = root_from (d (leaf b)) ts ps

  abbrev pub path_strings : List Turn → Bytes → List Bytes → List Bytes
  path_strings ts b ps = leaf b ∷ strings_from (d (leaf b)) ts ps

  -- two different strings of xs with one digest
  pub record Clash (xs : List Bytes) : Type 0 where
    pub one : Bytes
    pub other : Bytes
    pub has_one : Memᴰ one xs
    pub has_other : Memᴰ other xs
    pub differ : one ≢ other
    pub agree : d one ≡ d other
