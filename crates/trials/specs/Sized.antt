-- Why each record of a store over bytes has its place's length, and why it keeps its word: the proofs of laws of the interface, which src/ cites.
-- Assumes nothing.
use Rattle.std.specs.Prelude.{◌≡◌, true, refl, take, vec_items}
use Rattle.store.specs.Store.{Sized}
use Rattle.flat.specs.Sized.{table_sized as flat_sized}
use Rattle.logstore.specs.Sized.{table_sized as log_sized}
use Rattle.trials.specs.Kept.{kept_of}
use Rattle.trials.specs.declared.kept.Kept.{Kept}
use Rattle.trials.specs.declared.kept.Kept.TheVariants.{Flat, Log}

pub kept_sized : (s : Kept) → Sized (kept_of s)
kept_sized (Flat f) _ p r e = flat_sized (vec_items f.bytes) r p e
kept_sized (Log l) _ p r e = log_sized (take l.used (vec_items l.bytes)) r p e

pub kept_truthful : (s : Kept) → (kept_of s).truthful ≡ true
kept_truthful (Flat f) = refl
kept_truthful (Log l) = refl
