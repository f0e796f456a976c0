-- What values of the code stand for.
-- Assumes nothing.
use Rattle.std.specs.Prelude.{◌≡◌, ℕ, List, Some, None, Ok, Err, vec_items, Result, Vec, codes}
use Rattle.std.specs.declared.alloc.Global.{Global}
use Rattle.terms.specs.Refusals.{refusal_line}
use Rattle.store.specs.Bytes.{put_over}
use Rattle.store.specs.Store.{Answer, Meaning, Question}
use Rattle.store.specs.Store.{Question.asks_get, Question.asks_put, Question.asks_room, Question.asks_span}
use Rattle.logstore.specs.Records.{log_meaning, record_bytes, refusal_of, used_after}
use Rattle.logstore.specs.declared.log.Log.{Log}
use Rattle.logstore.specs.declared.log.error.OpenError.{OpenError}
use Rattle.logstore.specs.declared.log.error.OpenError.TheVariants.{NoMemory, NotRecords}

-- what a log means: what its bytes mean, up to its used length
abbrev pub log_of : Log → Meaning
log_of l = log_meaning (vec_items l.bytes) l.used

-- what a question with its answer leaves of its bytes: only an accepted put changes any, by a record behind the last one
abbrev pub LogDoes : Log → (q : Question) → Answer q → Log → Type 0
LogDoes l asks_span a l' = l' ≡ l
LogDoes l asks_room a l' = l' ≡ l
LogDoes l (asks_get p n) a l' = l' ≡ l
LogDoes l (asks_put p r) a l' = (vec_items l'.bytes ≡ put_over a (vec_items l.bytes) l.used (record_bytes p r)) × (l'.used ≡ used_after a l.used p)

-- what opening bytes with a used length gives: the log of those records; the empty log, and why they are none; or the bytes back
abbrev pub Opened : Vec ℕ Global → ℕ → Result Log OpenError → Type 0
Opened bytes used (Ok log) = (refusal_of (vec_items bytes) used ≡ None) × (log.bytes ≡ bytes) × (log.used ≡ used)
Opened bytes used (Err (NotRecords log why)) = (refusal_of (vec_items bytes) used ≡ Some why) × (log.bytes ≡ bytes) × (log.used ≡ 0)
Opened bytes used (Err (NoMemory back)) = back ≡ bytes

-- why bytes were not opened, as it is printed
abbrev pub open_error_text : OpenError → List ℕ
open_error_text (NoMemory back) = codes "there is no memory for the index"
open_error_text (NotRecords log why) = refusal_line why
