use Rattle.std.proofs.Common.{[], get_or, rules, w32}
use Rattle.std.specs.Int.{from_be_bytes}
use Rattle.hash.proofs.Made.{made_at}
use Rattle.sha256.proofs.Schedules.{words_are}
use Rattle.sha256.proofs.block.words.Goals as goal

pub returns : goal.returns
returns c =
    words_are c.args.block.now c.from_fn.result c.as_chunks.result.0.now c.told-block c.as_chunks.ensures.front c.from_fn.ensures.items.long
    (made_at (λ t. from_be_bytes w32 (get_or c.as_chunks.result.0.now t [])) c.from_fn.ensures.items (λ i y q k. search rules))
