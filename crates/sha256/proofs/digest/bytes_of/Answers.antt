use Rattle.std.proofs.Common.{◌/◌, ◌%◌, get_or, rules}
use Rattle.sha256.specs.Hash.{bytes32}
use Rattle.sha256.proofs.Bytes.{bytes_are}
use Rattle.hash.proofs.Made.{made_at}
use Rattle.sha256.proofs.digest.bytes_of.Goals as goal

pub returns : goal.returns
returns c =
    bytes_are c.args.hash.now c.from_fn.result c.told-hash c.from_fn.ensures.items.long
    (made_at (λ i. get_or (bytes32 (get_or c.args.hash.now (i / 4) 0)) (i % 4) 0) c.from_fn.ensures.items (λ i y q k. search rules))
