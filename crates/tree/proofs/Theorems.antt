-- The laws of the tree as the contract states them.
use Rattle.std.proofs.Common.{ℕ, ◌<◌, List, length, sym, refl, ◌∙◌, le_of_lt}
use Rattle.hash.specs.Hash.{Bytes}
use Rattle.tree.specs.Laws.{PathAlone, PathLength, Complete, Sound, TwoPaths, LengthCases}
use Rattle.tree.specs.Tree.{path_length_at}
use Rattle.tree.proofs.Level.{below_pow}
use Rattle.tree.proofs.Paths.{Fits}
use Rattle.tree.proofs.Paths as path
use Rattle.tree.proofs.Sound as pairs

-- blocks at the level of their own number
own : (i : ℕ) (bs : List Bytes) → i < length bs → Fits (length bs) i bs
own i bs h = record { within = h; held = le_of_lt (below_pow (length bs)) }

pub path_alone : PathAlone
path_alone d p e i bs h = path.path_only d p e (length bs) i bs (own i bs h) (le_of_lt (below_pow (length bs)))

pub path_length_lem : PathLength
path_length_lem d i bs h = path.path_length_lem d (length bs) i bs (own i bs h) ∙ path.turns-length (length bs) i (length bs)

pub complete : Complete
complete d i bs h = path.path_leads d (length bs) i bs (own i bs h)

pub sound : Sound
sound d size i bs h = pairs.sound d size (length bs) i bs (own i bs h)

pub two_paths : TwoPaths
two_paths d size i n b c ps qs hp hq = pairs.two_paths d size _ b c ps qs (hp ∙ sym (path.turns-length n i n)) (hq ∙ sym (path.turns-length n i n))

pub length_cases : LengthCases
unfolding path_length_at
length_cases = (refl, refl, refl, refl, refl)
