use Rattle.std.proofs.Common.{refl, ◌∙◌, arith, rules}
use Rattle.std.proofs.lemmas.Iterator.{YieldsList-from_range}
use Rattle.std.proofs.lemmas.Iterator.Consumers.{fold_from_yields_List}
use Rattle.sha256.specs.Hash.{compress, intermediate}
use Rattle.sha256.specs.Constants.{H₀}
use Rattle.sha256.specs.Padding.{block, pad}
use Rattle.sha256.proofs.Blocks.{blocks_all}
use Rattle.sha256.proofs.digest.hash_of.Goals as goal

pub returns : goal.returns
unfolding intermediate
returns c =
    fold_from_yields_List _ (λ H i. compress H (block (pad c.args.padded.now) i)) H₀ c.fold.result c.fold.ensures.ran
    (YieldsList-from_range 0 c.blocks-2.result c.blocks-2.result refl (omega arith)) (λ a x b q k. search rules)
    ∙ blocks_all c.args.padded.now c.blocks-2.result c.blocks-2.ensures
