-- The message schedule in 16 words, each word at its place modulo 16. This is the code's, and not the standard's.
-- Assumes nothing.
use Rattle.std.specs.Prelude.{ℕ, ◌+◌, ◌%◌, List, slice_index}
use Rattle.sha256.specs.Words.{◌⊞◌, σ0, σ1}

-- the word at t + 16, from the words at t to t + 15
unfoldable pub ahead : List ℕ → ℕ → ℕ
ahead w t =
    σ1 (slice_index w ((t + 14) % 16)) ⊞ slice_index w ((t + 9) % 16) ⊞ σ0 (slice_index w ((t + 1) % 16)) ⊞ slice_index w (t % 16)
