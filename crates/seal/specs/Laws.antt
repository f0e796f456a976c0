-- What is proved of the definitions: what is written is read.
-- Assumes nothing.
use Rattle.std.specs.Prelude.{◌≡◌, ◌<◌, ◌≤◌, length, Ok}
use Rattle.terms.specs.Levels.{most_blocks}
use Rattle.seal.specs.Seal.{Sealed, form_answer, seal_bytes}

-- a seal that has a kind, not too many blocks, and a root of 32 bytes
pub record Sound (x : Sealed) : Type 0 where
  pub named : 0 < x.kind
  pub few : x.count ≤ most_blocks
  pub sized : length x.root ≡ 32

-- is read as it was written
abbrev pub WrittenIsRead : Type 0
WrittenIsRead = (x : Sealed) → Sound x → form_answer (seal_bytes x) ≡ Ok x
