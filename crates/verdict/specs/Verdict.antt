-- What `slipcheck` says of a seal's bytes and a slip's.
-- Assumes nothing.
use Rattle.std.specs.Prelude.{ℕ, cond, List, ◌++◌, Ok, Err, codes, decimal, Result, ◌==◌}
use Rattle.terms.specs.Refusals.{refusal_line}
use Rattle.terms.specs.declared.refusal.Refusal.{Refusal}
use Rattle.terms.specs.declared.refusal.Refusal.TheVariants.{SealForm}
use Rattle.hash.specs.Hash.{Bytes}
use Rattle.sha256.specs.Hash.{sha256}
use Rattle.sha3.specs.Sponge.{sha3_256}
use Rattle.seal.specs.Forms.{kind_of}
use Rattle.slip.specs.Slip.{Shown, check_answer}
use Rattle.verdict.specs.declared.verdict.Accepted.{Accepted}

-- the verdict on what a check answered
abbrev pub said : Result Shown Refusal → Result Accepted Refusal
said (Ok x) = Ok (record { number = x.number; count = x.count })
said (Err r) = Err r

-- the seal's kind chooses the hash function; any other kind is no seal
abbrev pub verdict_of : Bytes → Bytes → Result Accepted Refusal
verdict_of seal slip =
    cond (kind_of seal == 1) (said (check_answer sha256 1 seal slip))
    (cond (kind_of seal == 2) (said (check_answer sha3_256 2 seal slip)) (Err SealForm))

-- the line that is printed of an accepted slip
abbrev pub accepted_line : Accepted → List ℕ
accepted_line v = codes "accepted " ++ (decimal v.number ++ (codes " of " ++ decimal v.count))

-- the line that is printed of a verdict
abbrev pub line_of : Result Accepted Refusal → List ℕ
line_of (Ok v) = accepted_line v
line_of (Err r) = refusal_line r
