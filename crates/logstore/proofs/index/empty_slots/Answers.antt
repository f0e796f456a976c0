use Rattle.std.proofs.Common.{rules}
use Rattle.std.proofs.lemmas.Result.{IfOk-weaker}
use Rattle.logstore.proofs.index.empty_slots.Goals as goal

pub returns : goal.returns
returns c = IfOk-weaker c.vec.result _ _ (λ v exact. exact (λ y same. search rules)) c.vec.ensures.items_if_clones_equal
