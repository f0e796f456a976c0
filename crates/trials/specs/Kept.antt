-- What a store over bytes means, whichever it is.
-- Assumes nothing.
use Rattle.std.specs.Prelude.{◌≡◌, ℕ, Ok, Err, Result, Vec}
use Rattle.std.specs.declared.alloc.AllocFailed.{AllocFailed}
use Rattle.std.specs.declared.alloc.Global.{Global}
use Rattle.store.specs.Store.{Answer, Meaning, Question}
use Rattle.flat.specs.Views.{FlatDoes, flat_of}
use Rattle.logstore.specs.Views.{LogDoes, log_of}
use Rattle.trials.specs.declared.kept.Kept.{Kept}
use Rattle.trials.specs.declared.kept.Kept.TheVariants.{Flat, Log}
use Rattle.trials.specs.declared.order.Kind.{Kind}
use Rattle.trials.specs.declared.order.Kind.TheVariants as kind

-- what the one store means that it is
abbrev pub kept_of : Kept → Meaning
kept_of (Flat f) = flat_of f
kept_of (Log l) = log_of l

-- what a question with its answer leaves: the same one store, which does what it does
abbrev pub KeptDoes : Kept → (q : Question) → Answer q → Kept → Type 0
KeptDoes (Flat f) q a (Flat f') = FlatDoes f q a f'
KeptDoes (Log l) q a (Log l') = LogDoes l q a l'
KeptDoes (Flat f) q a (Log l') = ⊥
KeptDoes (Log l) q a (Flat f') = ⊥

-- what making one of a kind over bytes gives: a flat store of those bytes, a log of none of them, or the bytes back
abbrev pub Made : Kind → Vec ℕ Global → Result Kept (AllocFailed (Vec ℕ Global)) → Type 0
Made kind.Flat bytes (Ok (Flat f)) = f.bytes ≡ bytes
Made kind.Flat bytes (Ok (Log l)) = ⊥
Made kind.Flat bytes (Err back) = ⊥
Made kind.Log bytes (Ok (Flat f)) = ⊥
Made kind.Log bytes (Ok (Log l)) = (l.bytes ≡ bytes) × (l.used ≡ 0)
Made kind.Log bytes (Err back) = back.value ≡ bytes
