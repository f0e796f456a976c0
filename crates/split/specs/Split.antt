-- What a split means: blocks lie in the first store, nodes in the second.
-- Assumes nothing.
use Rattle.std.specs.Prelude.{◌≡◌, min, true, ◌&&◌}
use Rattle.terms.specs.declared.place.Place.TheVariants.{Block, Node}
use Rattle.store.specs.Store.{Answer, Left, Meaning, Question, Table}
use Rattle.store.specs.Store.{Question.asks_get, Question.asks_put, Question.asks_room, Question.asks_span}
use Rattle.split.specs.declared.split.Split.{Split}

-- blocks by the first table, nodes by the second
abbrev pub split_table : Table → Table → Table
split_table blocks nodes (Block i) = blocks (Block i)
split_table blocks nodes (Node l j) = nodes (Node l j)

-- span and room are the smaller ones, and it is truthful where both are
abbrev pub split_of : Meaning → Meaning → Meaning
split_of blocks nodes = record { table = split_table blocks.table nodes.table; span = min blocks.span nodes.span; room = min blocks.room nodes.room; truthful = blocks.truthful && nodes.truthful }

-- what a question with its answer leaves of two truthful stores: only the one that has the place of a put changes
abbrev pub SplitLeft : (q : Question) → Answer q → Meaning → Meaning → Meaning → Meaning → Type 0
SplitLeft asks_span a blocks nodes blocks' nodes' = (blocks' ≡ blocks) × (nodes' ≡ nodes)
SplitLeft asks_room a blocks nodes blocks' nodes' = (blocks' ≡ blocks) × (nodes' ≡ nodes)
SplitLeft (asks_get p n) a blocks nodes blocks' nodes' = (blocks' ≡ blocks) × (nodes' ≡ nodes)
SplitLeft (asks_put (Block i) r) a blocks nodes blocks' nodes' = Left (asks_put (Block i) r) a blocks blocks' × (nodes' ≡ nodes)
SplitLeft (asks_put (Node l j) r) a blocks nodes blocks' nodes' = (blocks' ≡ blocks) × Left (asks_put (Node l j) r) a nodes nodes'

-- the same, where nothing is known of stores that are not truthful
abbrev pub Parts : (q : Question) → Answer q → Meaning → Meaning → Meaning → Meaning → Type 0
Parts q a blocks nodes blocks' nodes' = (split_of blocks nodes).truthful ≡ true → SplitLeft q a blocks nodes blocks' nodes'

-- what a split does at a question, by what its stores mean
abbrev pub SplitDoes : {B N : Type 0} → (B → Meaning) → (N → Meaning) → Split B N → (q : Question) → Answer q → Split B N → Type 0
SplitDoes b n s q a s' = Parts q a (b s.blocks) (n s.nodes) (b s'.blocks) (n s'.nodes)
